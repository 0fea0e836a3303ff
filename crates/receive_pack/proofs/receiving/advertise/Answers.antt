use Rattle.std.proofs.Common.{◌∙◌, ap, refl}
use Rattle.std.proofs.lemmas.Result.{err_from_is_err_and}
use Rattle.session_core.proofs.LinkLemmas.{keeps_same, keeps_more}
use Rattle.session_core.proofs.StepLemmas.{says, says_exits}
use Rattle.receive_pack.proofs.AdvertisementLemmas.{rest_text, rest_more, rest_none, advertisement_is, short_rest, short_first}
use Rattle.receive_pack.proofs.receiving.advertise.Goals as goal

pub loop-name-init : goal.loop-name-init
loop-name-init g c =
    let all = c.into_iter-name-iterator.ensures.into_iter_gives ∙ c.refs-name-items.ensures in
    record {
      writes = λ c' desk out ran. rw all at ran;
      reads = refl;
      puts = refl;
      reading = keeps_same _;
      short = rw all c.requires.names;
    }

pub advertise_ref-requires : goal.advertise_ref-requires
advertise_ref-requires g c = record { short = rw c.bytes.ensures (short_first _ _ _ c.in-Some.ensures.steps c.loop-name.invariant.short) }

pub returns-in_err-advertise_ref-clause-runs : goal.returns-in_err-advertise_ref-clause-runs
returns-in_err-advertise_ref-clause-runs g c = λ desk.
    let p = err_from_is_err_and c.from_residual.result c.from_residual.ensures.1 in
    let more = ap (rest_text c.loop-name.first) c.in-Some.ensures.steps ∙ rest_more c.loop-name.first _ _ in
    rw (advertisement_is c.args.repo.now.refs) (c.loop-name.invariant.writes _ desk _ (rw more (says_exits _ _ desk _ _ c.advertise_ref.result _ _ _ c.in_err-advertise_ref.was p.1 p.2 (rw c.bytes.ensures at (c.advertise_ref.ensures.runs desk)))))

pub loop-name-preserved : goal.loop-name-preserved
loop-name-preserved g c =
    let more = ap (rest_text c.loop-name.first) c.in-Some.ensures.steps ∙ rest_more c.loop-name.first _ _ in
    record {
      writes = λ c' desk out ran.
          c.loop-name.invariant.writes c' desk out (rw more (says _ _ desk _ _ c.advertise_ref.result c' c.in_ok-advertise_ref.field-0 out c.in_ok-advertise_ref.was (rw c.bytes.ensures at (c.advertise_ref.ensures.runs desk)) ran));
      reads = c.in_ok-advertise_ref.ensures.tells.0 ∙ c.loop-name.invariant.reads;
      puts = c.in_ok-advertise_ref.ensures.tells.1 ∙ c.loop-name.invariant.puts;
      reading = keeps_more _ _ _ c.loop-name.invariant.reading c.advertise_ref.ensures.reading;
      short = short_rest _ _ _ c.in-Some.ensures.steps c.loop-name.invariant.short;
    }

pub returns-clause-runs : goal.returns-clause-runs
returns-clause-runs g c = λ desk.
    let done = ap (rest_text c.loop-name.first) c.in-None.ensures.steps.0 ∙ rest_none c.loop-name.first in
    rw (advertisement_is c.args.repo.now.refs) (c.loop-name.invariant.writes _ desk _ (rw done (c.end_advertisement.ensures.runs desk)))
