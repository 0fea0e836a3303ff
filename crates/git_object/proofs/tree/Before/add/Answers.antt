use Rattle.std.proofs.Common.{◌≡◌, Bool, true, false, cond, ◌&&◌, not, ◌∷◌, [], ◌++◌, refl, sym, ◌∙◌, ap, ap₂}
use Rattle.std.specs.List.{list_any}
use Rattle.std.specs.Str.{bytes_eq}
use Rattle.git_object.specs.Tree.{entry_of, is_directory}
use Rattle.git_object.specs.Before.{file_names}
use Rattle.git_object.proofs.TreeCheckLemmas.{stops_falling, rising, may_follow_rising, names_push}
use Rattle.git_object.proofs.tree.Before.add.Goals as goal

pub returns-then-not-rises : goal.returns-then-not-rises
returns-then-not-rises c before keeps = (sym (stops_falling c.args.self.now before (entry_of c.args.entry) keeps (sym c.rises.ensures ∙ c.if-not-rises.true)), λ e. absurd cc)

pub returns-then-has_file : goal.returns-then-has_file
returns-then-has_file c before keeps =
    let up = sym c.rises.ensures ∙ c.if-not-rises.false in
    let both = ap₂ ◌&&◌ (sym c.is_directory.ensures ∙ c.if-is_directory.true) (sym (c.has_file.ensures before keeps) ∙ c.if-has_file.true) in
    (sym (may_follow_rising c.args.self.now before (entry_of c.args.entry) keeps up ∙ ap not both), λ e. absurd cc)

pub returns-then-is_directory : goal.returns-then-is_directory
returns-then-is_directory c before keeps =
    let up = sym c.rises.ensures ∙ c.if-not-rises.false in
    let directory : is_directory (entry_of c.args.entry) ≡ true = sym c.is_directory.ensures ∙ c.if-is_directory.true in
    let both = ap₂ ◌&&◌ directory (sym (c.has_file.ensures before keeps) ∙ c.if-has_file.false) in (
      sym (may_follow_rising c.args.self.now before (entry_of c.args.entry) keeps up ∙ ap not both),
      λ e. record {
        nearest = refl;
        rise = (rising c.args.self.now before (entry_of c.args.entry) keeps up, keeps.rise);
        files = keeps.files ∙ sym (ap (λ (b : Bool). cond b (file_names before) (file_names before ++ c.args.entry.name.now ∷ [])) directory);
      },
    )

pub returns : goal.returns
returns c before keeps =
    let up = sym c.rises.ensures ∙ c.if-not-rises.false in
    let file : is_directory (entry_of c.args.entry) ≡ false = sym c.is_directory.ensures ∙ c.if-is_directory.false in (
      sym (may_follow_rising c.args.self.now before (entry_of c.args.entry) keeps up ∙ ap (λ b. not (b && list_any (λ n. bytes_eq n c.args.entry.name.now) (file_names before))) file),
      λ e. record {
        nearest = refl;
        rise = (rising c.args.self.now before (entry_of c.args.entry) keeps up, keeps.rise);
        files = names_push c.args.self.now.files.items c.push.new.self.items c.args.entry.name (file_names before) c.in_ok-push.ensures.items keeps.files
            ∙ sym (ap (λ (b : Bool). cond b (file_names before) (file_names before ++ c.args.entry.name.now ∷ [])) file);
      },
    )
