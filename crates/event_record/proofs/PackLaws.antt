-- The commands and the objects of a push, read and written.
use Rattle.std.proofs.Common.{◌≡◌, ℕ, ◌+◌, ◌^◌, ◌≤◌, false, cond, ltb, List, [], ◌∷◌, ◌++◌, length, Some, None, refl, sym, ap, subst, ◌∙◌, append_assoc, arith}
use Rattle.std.specs.List.{flat_map, AllByRecursion}
use Rattle.std.specs.Int.{w32, to_be_bytes}
use Rattle.std.proofs.lemmas.Bool.{ltb-false, le-ltb}
use Rattle.std.proofs.lemmas.List.Elements.{All-from_recursion, recursion_from_All}
use Rattle.git_object.specs.Content.{Content}
use Rattle.git_object.specs.Object.{FitOnePack, IsPackable, total_bytes}
use Rattle.ref_store.specs.declared.command.Command.{Command}
use Rattle.event_record.specs.Fields.{command_bytes, commands_bytes, object_bytes, pack_bytes}
use Rattle.event_record.specs.Reading.{number_at, object_at, items_at, command_within, no_cost, body_size, commands_at, pack_at}
use Rattle.event_record.proofs.FieldLaws.{IsBytes, bind_some, unless_some, Takes, Takes-then, wide32, number_takes, number_again, IsCommand, command_takes, command_again, IsObject, object_takes, object_again, total, IsItemReader, items_take, items_again}

commands_reader : IsItemReader command_within no_cost command_bytes IsCommand
commands_reader = record {
  takes = λ left bytes x fits e. let t = command_takes bytes x fits e in (t.0, t.1, omega arith);
  again = λ left x rest fits le. command_again x rest fits;
}

objects_reader : IsItemReader object_at body_size object_bytes IsObject
objects_reader = record {
  takes = λ left bytes x fits e. object_takes left bytes x fits e;
  again = λ left x rest fits le. object_again left x rest fits le;
}

costs_none : (commands : List Command) → total no_cost commands ≡ 0
costs_none [] = refl
costs_none (c ∷ cs) = omega (arith, costs_none cs)

costs_all : (objects : List Content) → total body_size objects ≡ total_bytes objects
costs_all [] = refl
costs_all (o ∷ os) = ap (λ (n : ℕ). length o.body + n) (costs_all os)

-- what can be written of commands
pub record AreCommands (commands : List Command) : Type 0 where
  pub few : length commands ≤ 10000
  pub each : AllByRecursion IsCommand commands

pub commands_take : (bytes : List ℕ) (x : List Command × List ℕ) → IsBytes bytes → commands_at bytes ≡ Some x → Takes bytes (commands_bytes x.0) x.1 × AreCommands x.0
unfolding commands_at
commands_take bytes x fits e =
    let a = bind_some (number_at w32 bytes) (λ count. cond (ltb 10000 count.0) None (items_at command_within no_cost count.0 0 count.1)) x e in
    let g = unless_some (ltb 10000 a.0.0) (items_at command_within no_cost a.0.0 0 a.0.1) x a.2 in
    let few : a.0.0 ≤ 10000 = ltb-false _ _ g.0 in
    let t = number_takes w32 (2 ^ 32) wide32 bytes a.0 fits a.1 in
    let i = items_take command_within no_cost command_bytes IsCommand commands_reader a.0.0 0 a.0.1 x t.0.rest_fits g.1 in
    let both = Takes-then bytes (to_be_bytes w32 a.0.0) a.0.1 (flat_map command_bytes x.0) x.1 t.0 i.0 in
    (subst (λ (k : ℕ). Takes bytes (to_be_bytes w32 k ++ flat_map command_bytes x.0) x.1) (sym i.1) both, record { few = omega (arith, i.1, few); each = i.2 })

pub commands_again : (commands : List Command) (rest : List ℕ) → AreCommands commands → commands_at (commands_bytes commands ++ rest) ≡ Some (commands, rest)
unfolding commands_at
commands_again commands rest are =
    let few : ltb 10000 (length commands) ≡ false = le-ltb _ _ are.few in
    let regrouped : commands_bytes commands ++ rest ≡ to_be_bytes w32 (length commands) ++ (flat_map command_bytes commands ++ rest) = append_assoc (to_be_bytes w32 (length commands)) (flat_map command_bytes commands) rest in
    ap commands_at regrouped
    ∙ rw (number_again w32 (2 ^ 32) wide32 (length commands) (flat_map command_bytes commands ++ rest) (omega (arith, are.few)), few) (items_again command_within no_cost command_bytes IsCommand commands_reader 0 commands rest are.each (omega (arith, costs_none commands)))

packable : (object : Content) → IsObject object → IsPackable object
packable object is = record { short = is.short; form = is.form }

all_packable : (objects : List Content) → AllByRecursion IsObject objects → AllByRecursion IsPackable objects
all_packable [] is = tt
all_packable (o ∷ os) is = (packable o is.0, all_packable os is.1)

all_objects : (objects : List Content) → AllByRecursion IsPackable objects → AllByRecursion IsObject objects
all_objects [] is = tt
all_objects (o ∷ os) is = (record { short = is.0.short; form = is.0.form }, all_objects os is.1)

pub pack_takes : (bytes : List ℕ) (x : List Content × List ℕ) → IsBytes bytes → pack_at bytes ≡ Some x → Takes bytes (pack_bytes x.0) x.1 × FitOnePack x.0
unfolding pack_at
pack_takes bytes x fits e =
    let a = bind_some (number_at w32 bytes) (λ count. cond (ltb 100000 count.0) None (items_at object_at body_size count.0 268435456 count.1)) x e in
    let g = unless_some (ltb 100000 a.0.0) (items_at object_at body_size a.0.0 268435456 a.0.1) x a.2 in
    let few : a.0.0 ≤ 100000 = ltb-false _ _ g.0 in
    let t = number_takes w32 (2 ^ 32) wide32 bytes a.0 fits a.1 in
    let i = items_take object_at body_size object_bytes IsObject objects_reader a.0.0 268435456 a.0.1 x t.0.rest_fits g.1 in
    let both = Takes-then bytes (to_be_bytes w32 a.0.0) a.0.1 (flat_map object_bytes x.0) x.1 t.0 i.0 in (
      subst (λ (k : ℕ). Takes bytes (to_be_bytes w32 k ++ flat_map object_bytes x.0) x.1) (sym i.1) both,
      record { few = omega (arith, i.1, few); formed = All-from_recursion IsPackable x.0 (all_packable x.0 i.2); light = omega (arith, i.3, costs_all x.0) },
    )

pub pack_again : (pack : List Content) (rest : List ℕ) → FitOnePack pack → pack_at (pack_bytes pack ++ rest) ≡ Some (pack, rest)
unfolding pack_at
pack_again pack rest fit =
    let few : ltb 100000 (length pack) ≡ false = le-ltb _ _ fit.few in
    let regrouped : pack_bytes pack ++ rest ≡ to_be_bytes w32 (length pack) ++ (flat_map object_bytes pack ++ rest) = append_assoc (to_be_bytes w32 (length pack)) (flat_map object_bytes pack) rest in
    ap pack_at regrouped
    ∙ rw (number_again w32 (2 ^ 32) wide32 (length pack) (flat_map object_bytes pack ++ rest) (omega (arith, fit.few)), few)
    (items_again object_at body_size object_bytes IsObject objects_reader 268435456 pack rest (all_objects pack (recursion_from_All IsPackable pack fit.formed)) (omega (arith, fit.light, costs_all pack)))
