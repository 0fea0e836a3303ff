use Rattle.clap.specs.Words.{first_value, found_of}
use Rattle.shell_words.specs.declared.commands.Transport.TheVariants.{Git, Http}
use Rattle.shell_words.proofs.MatchLemmas.{keep-err, keep-ok, load-reads, script-err, script-ok, serve-reads}
use Rattle.shell_words.proofs.matches.command_by.Goals as goal

pub returns-in-Ok-clause-reads : goal.returns-in-Ok-clause-reads
returns-in-Ok-clause-reads c =
    script-ok c.args.name.now (first_value (found_of c.args.given.now)) _ c.get_str.ensures c.in-Ok.admin c.in-script.is c.in-Ok.ensures.reads

pub returns-in-Err-clause-reads : goal.returns-in-Err-clause-reads
returns-in-Err-clause-reads c =
    script-err c.args.name.now (first_value (found_of c.args.given.now)) _ c.get_str.ensures c.in-Err.fault c.in-script.is c.in-Err.ensures.reads

pub returns-in-serve-clause-reads : goal.returns-in-serve-clause-reads
returns-in-serve-clause-reads c =
    serve-reads c.args.name.now (first_value (found_of c.args.given.now)) _ c.get_str-in-serve.ensures Git _ _ c.read_serve.result c.in-serve.is c.get_str-in-serve-2.ensures c.get_str-in-serve-3.ensures c.read_serve.ensures.reads

pub returns-in-http-clause-reads : goal.returns-in-http-clause-reads
returns-in-http-clause-reads c =
    serve-reads c.args.name.now (first_value (found_of c.args.given.now)) _ c.get_str-in-http.ensures Http _ _ c.read_serve-in-http.result c.in-http.is c.get_str-in-http-2.ensures c.get_str-in-http-3.ensures c.read_serve-in-http.ensures.reads

pub returns-in-load-clause-reads : goal.returns-in-load-clause-reads
returns-in-load-clause-reads c =
    load-reads c.args.name.now (first_value (found_of c.args.given.now)) _ _ c.read_load.result c.in-load.is c.get_str-in-load.ensures c.get_str-in-load-2.ensures c.read_load.ensures.reads

pub returns-in-Ok-read_admin-clause-reads : goal.returns-in-Ok-read_admin-clause-reads
returns-in-Ok-read_admin-clause-reads c =
    keep-ok c.args.name.now (first_value (found_of c.args.given.now)) _ c.get_str-in-keep.ensures c.in-Ok-read_admin.admin c.in-keep.is c.in-Ok-read_admin.ensures.reads

pub returns-in-Err-read_admin-clause-reads : goal.returns-in-Err-read_admin-clause-reads
returns-in-Err-read_admin-clause-reads c =
    keep-err c.args.name.now (first_value (found_of c.args.given.now)) _ c.get_str-in-keep.ensures c.in-Err-read_admin.fault c.in-keep.is c.in-Err-read_admin.ensures.reads
