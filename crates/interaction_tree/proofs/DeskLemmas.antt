-- What own entries leave of a desk.
use Rattle.std.proofs.Common.{◌≡◌, ◌≤◌, ℕ, nat_eq, Bool, true, false, cond, List, [], ◌∷◌, ◌++◌, map, take, drop, length, refl, sym, ◌∙◌, ap, subst, append_assoc, arith, length-append}
use Rattle.std.specs.Prelude.{IsTrue, if◌then◌else◌}
use Rattle.std.specs.List.{AllByRecursion, filter}
use Rattle.std.proofs.Math.Seq.{drop-length, take-length}
use Rattle.std.proofs.lemmas.List.{append-nil, drop-append-le, take-append-le}
use Rattle.std.proofs.lemmas.Bool.Decides.{nat_tests}
use Rattle.std.proofs.lemmas.List.Elements.{filter-append}
use Rattle.hub_history.specs.declared.entry.Entry.{Entry}
use Rattle.hub_history.specs.History.{IsLegal}
use Rattle.hub.specs.Desk.{DeskView, IsOfAnother, IsSound, mine}
use Rattle.interaction_tree.specs.Requests.{Answers, Agrees, OwnEntry, entry_of, asked, own_behind, own_in}
use Rattle.interaction_tree.specs.Runs.{MakesAll}
use Rattle.interaction_tree.specs.Growth.{GrowsBy, own_since}
use Rattle.interaction_tree.specs.Alone.{IsAlone}

-- ---- entries that bear a number

by_number : {X : Type 0} (n caller : ℕ) (own other : X) → n ≡ caller → (if nat_eq n caller then own else other) ≡ own
by_number n caller own other is = go (nat_eq n caller) refl where
  go : (b : Bool) → nat_eq n caller ≡ b → (if b then own else other) ≡ own
  go true e = refl
  go false e = absurd (grind (arith, nat_tests))

by_another : {X : Type 0} (n caller : ℕ) (own other : X) → ¬ (n ≡ caller) → (if nat_eq n caller then own else other) ≡ other
by_another n caller own other apart = go (nat_eq n caller) refl where
  go : (b : Bool) → nat_eq n caller ≡ b → (if b then own else other) ≡ other
  go true e = absurd (apart (grind (arith, nat_tests)))
  go false e = refl

-- entries of others are passed over
behind_others : (caller : ℕ) (before others rest : List Entry) → AllByRecursion (IsOfAnother caller) others → own_behind caller before (others ++ rest) ≡ own_behind caller (before ++ others) rest
behind_others caller before [] rest of_others = ap (λ (l : List Entry). own_behind caller l rest) (sym (append-nil before))
behind_others caller before (e ∷ others) rest of_others =
    by_another e.caller caller _ _ of_others.0
    ∙ behind_others caller (before ++ e ∷ []) others rest of_others.1
    ∙ ap (λ (l : List Entry). own_behind caller l rest) (append_assoc before (e ∷ []) others)

-- the next own one
behind_own : (caller : ℕ) (before rest : List Entry) (e : Entry) → e.caller ≡ caller
    → own_behind caller before (e ∷ rest) ≡ record { before = before; entry = e } ∷ own_behind caller (before ++ e ∷ []) rest
behind_own caller before rest e is = by_number e.caller caller _ _ is

-- what stands behind a place of a log
own_in_is : (caller : ℕ) (log more : List Entry) → own_in caller (length log) (log ++ more) ≡ own_behind caller log more
own_in_is caller log more = (λ i. own_behind caller (front i) (back i)) where
  within : length log ≤ length log
  within = omega arith

  front : take (length log) (log ++ more) ≡ log
  front = take-append-le (length log) log more within ∙ take-length log

  back : drop (length log) (log ++ more) ≡ more
  back = drop-append-le (length log) log more within ∙ ap (λ (l : List Entry). l ++ more) (drop-length log)

-- none of others', appended, is one
behind_appended : (caller : ℕ) (before log others : List Entry) → AllByRecursion (IsOfAnother caller) others → own_behind caller before (log ++ others) ≡ own_behind caller before log
behind_appended caller before [] others of_others =
    ap (λ (l : List Entry). own_behind caller before l) (sym (append-nil others)) ∙ behind_others caller before others [] of_others
behind_appended caller before (e ∷ log) others of_others =
    ap (λ (l : List OwnEntry). if nat_eq e.caller caller then record { before = before; entry = e } ∷ l else l) (behind_appended caller (before ++ e ∷ []) log others of_others)

pub others_not_own : (caller place : ℕ) (log others : List Entry) → place ≤ length log → AllByRecursion (IsOfAnother caller) others → own_in caller place (log ++ others) ≡ own_in caller place log
others_not_own caller place log others within of_others =
    (λ i. own_behind caller (take-append-le place log others within i) (drop-append-le place log others within i))
    ∙ behind_appended caller (take place log) (drop place log) others of_others

-- they are the entries of the number
entries_behind : (caller : ℕ) (before log : List Entry) → map entry_of (own_behind caller before log) ≡ filter (λ (e : Entry). nat_eq e.caller caller) log
entries_behind caller before [] = refl
entries_behind caller before (e ∷ log) = go (nat_eq e.caller caller) (entries_behind caller (before ++ e ∷ []) log) where
  go : (b : Bool) → map entry_of (own_behind caller (before ++ e ∷ []) log) ≡ filter (λ (e : Entry). nat_eq e.caller caller) log
      → map entry_of (if b then record { before = before; entry = e } ∷ own_behind caller (before ++ e ∷ []) log else own_behind caller (before ++ e ∷ []) log)
      ≡ cond b (e ∷ filter (λ (e : Entry). nat_eq e.caller caller) log) (filter (λ (e : Entry). nat_eq e.caller caller) log)
  go true same = ap (λ (l : List Entry). e ∷ l) same
  go false same = same

-- ---- what was made, one entry after the other

-- the view goes on, and what was made are the entries of the number in what it goes on by
record Goes (a b : DeskView) (own : List OwnEntry) : Type 0 where
  more : List Entry
  new_is : b ≡ record a { seen = a.seen ++ more }
  own_is : own ≡ own_behind a.caller a.seen more
  legal : IsLegal a.admin a.seen → IsLegal a.admin (a.seen ++ more)

makes_goes : (a b : DeskView) (own : List OwnEntry) → MakesAll a b own → Goes a b own
makes_goes a b [] same = record {
  more = [];
  new_is = same ∙ ap (λ (l : List Entry). record a { seen = l }) (sym (append-nil a.seen));
  own_is = refl;
  legal = λ legal. subst (IsLegal a.admin) (sym (append-nil a.seen)) legal;
}
makes_goes a b (one ∷ own) p =
    let mid = p.0 in
    let makes = p.1 in
    let later = makes_goes mid b own p.2 in
    let more : List Entry = makes.others ++ (one.entry ∷ later.more) in
    let seen : (one.before ++ one.entry ∷ []) ++ later.more ≡ a.seen ++ more =
    append_assoc one.before (one.entry ∷ []) later.more ∙ ap (λ (l : List Entry). l ++ one.entry ∷ later.more) makes.before_is ∙ append_assoc a.seen makes.others (one.entry ∷ later.more) in
    let mid_is : mid ≡ record a { seen = one.before ++ one.entry ∷ [] } = makes.new_is in
    record {
      more = more;
      new_is = later.new_is ∙ ap (λ (d : DeskView). record d { seen = d.seen ++ later.more }) mid_is ∙ ap (λ (l : List Entry). record a { seen = l }) seen;
      own_is =
          ap (λ (l : List OwnEntry). one ∷ l) (later.own_is ∙ ap (λ (d : DeskView). own_behind d.caller d.seen later.more) mid_is)
          ∙ sym (behind_own a.caller one.before later.more one.entry makes.own)
          ∙ ap (λ (l : List Entry). own_behind a.caller l (one.entry ∷ later.more)) makes.before_is
          ∙ sym (behind_others a.caller a.seen makes.others (one.entry ∷ later.more) makes.of_others);
      legal = λ legal.
          let mid_legal : IsLegal mid.admin mid.seen = subst (λ (d : DeskView). IsLegal d.admin d.seen) (sym mid_is) makes.legal in
          subst (IsLegal a.admin) seen (subst (λ (d : DeskView). IsLegal d.admin (d.seen ++ later.more)) mid_is (later.legal mid_legal));
    }

-- what was made are the entries that the view has since
pub made_since : (a b : DeskView) (own : List OwnEntry) → MakesAll a b own → own ≡ own_since a b
made_since a b own made =
    let goes = makes_goes a b own made in
    goes.own_is ∙ sym (own_in_is a.caller a.seen goes.more) ∙ ap (λ (d : DeskView). own_in a.caller (length a.seen) d.seen) (sym goes.new_is)

pub makes_grows : (a b : DeskView) (own : List OwnEntry) → IsSound a → MakesAll a b own → IsSound b × GrowsBy a b own
makes_grows a b own sound made =
    let goes = makes_goes a b own made in (
      subst IsSound (sym goes.new_is) (record { named = sound.named; legal = goes.legal sound.legal; within = further a.seen goes.more sound.within }),
      record {
        made = made;
        more = goes.more;
        new_is = goes.new_is;
        own_is = made_since a b own made;
        mine_is =
            ap mine goes.new_is
            ∙ ap (filter (λ (e : Entry). nat_eq e.caller a.caller)) (drop-append-le a.start a.seen goes.more sound.within)
            ∙ filter-append (λ (e : Entry). nat_eq e.caller a.caller) (drop a.start a.seen) goes.more
            ∙ ap (λ (l : List Entry). mine a ++ l) (sym (entries_behind a.caller a.seen goes.more) ∙ ap (map entry_of) (sym goes.own_is));
      },
    )
  where
    further : (seen more : List Entry) → a.start ≤ length seen → a.start ≤ length (seen ++ more)
    further seen more within = omega (arith, within, length-append seen more)

-- at the desk of a hub's only caller each entry stands right behind the one before, by answers that agree
-- with what was seen
pub makes_alone : (a b : DeskView) (own : List OwnEntry) → IsTrue a.alone → MakesAll a b own → (answers : Answers) → Agrees answers b.seen → IsAlone answers a.seen own b.seen
makes_alone a b [] alone same answers agrees = ap (λ (d : DeskView). d.seen) same
makes_alone a b (one ∷ own) alone p answers agrees =
    let mid = p.0 in
    let makes = p.1 in
    let no_others = makes.no_others alone in
    let before : one.before ≡ a.seen = makes.before_is ∙ ap (λ (l : List Entry). a.seen ++ l) no_others.0 ∙ append-nil a.seen in
    let caller : one.entry.caller ≡ 0 = makes.own ∙ no_others.1 in
    let later = makes_goes mid b own p.2 in
    let seen : b.seen ≡ one.before ++ one.entry ∷ later.more =
    ap (λ (d : DeskView). d.seen) later.new_is ∙ ap (λ (d : DeskView). d.seen ++ later.more) makes.new_is ∙ append_assoc one.before (one.entry ∷ []) later.more in
    let event : one.entry.event ≡ answers a.seen (asked one) = agrees one.before one.entry later.more seen ∙ ap (λ (l : List Entry). answers l (asked one)) before in
    let mid_is : mid ≡ record a { seen = a.seen ++ one.entry ∷ [] } = makes.new_is ∙ ap (λ (l : List Entry). record a { seen = l ++ one.entry ∷ [] }) before in
    let ih = makes_alone mid b own (subst (λ (d : DeskView). IsTrue d.alone) (sym mid_is) alone) p.2 answers agrees in (
      before,
      (λ i. record { caller = caller i; event = event i }),
      subst (λ (d : DeskView). IsAlone answers d.seen own b.seen) mid_is ih,
    )
