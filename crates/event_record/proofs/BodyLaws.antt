-- A body that is read is the body of what was read, and the body of what can be stored is read again.
use Rattle.std.proofs.Common.{◌≡◌, ℕ, ◌^◌, ◌<◌, ◌≤◌, Bool, true, false, cond, eqb, List, [], ◌∷◌, ◌++◌, length, take, Option, Some, None, refl, sym, ap, subst, ◌∙◌, append_assoc, append-nil, arith, inl, inr, ◌⊎◌}
use Rattle.std.specs.List.{AllByRecursion}
use Rattle.std.specs.Int.{w64, to_be_bytes, from_be_bytes}
use Rattle.std.proofs.lemmas.Nat.{from_be_bytes-to_be_bytes_8}
use Rattle.std.proofs.lemmas.Bool.{eqb-true}
use Rattle.std.proofs.lemmas.List.{nil_from_length}
use Rattle.conf_lex.specs.Names.{is_user_name}
use Rattle.git_object.specs.Content.{Content}
use Rattle.git_object.specs.Object.{FitOnePack}
use Rattle.ref_store.specs.declared.command.Command.{Command}
use Rattle.access_check.specs.declared.verdicts.Want.{Want}
use Rattle.access_check.specs.declared.verdicts.Want.TheVariants.{Read, Write}
use Rattle.hub_history.specs.declared.entry.PermChange.{PermChange}
use Rattle.hub_history.specs.declared.entry.PermChange.TheVariants as change
use Rattle.hub_history.specs.History.{AreNames, HasShortRole, IsOfUser}
use Rattle.hub_history.specs.Requests.{Request, Enter, Push, Permit, Look}
use Rattle.event_record.specs.Fields.{text_bytes, commands_bytes, pack_bytes, HasIds}
use Rattle.event_record.specs.Bodies.{AreStorable, IsStorable, IsWithinLimits, body_of, change_bytes, flag_byte, request_bytes, want_byte}
use Rattle.event_record.specs.Reading.{◌>>=◌, number_at, text_at, user_at, repo_at, commands_at, pack_at}
use Rattle.event_record.specs.Fronts.{place_at}
use Rattle.event_record.specs.BodyReading.{flag_at, want_of, enter_at, push_at, holder_at, grant, revoke, change_at, permit_at, look_at, request_at, body_at}
use Rattle.event_record.proofs.FieldLaws.{IsBytes, IsBytes-rest, bind_some, if_some, some_is, Takes, Takes-then, wide64, number_takes, number_again, text_takes, text_again, user_takes, user_again, repo_takes, repo_again, IsCommand}
use Rattle.event_record.proofs.PackLaws.{AreCommands, commands_take, commands_again, pack_takes, pack_again}

-- one of two answers, by a test
tried : {A : Type 0} (t : Bool) (this other : Option A) (x : A) → cond t this other ≡ Some x → ((t ≡ true) × (this ≡ Some x)) ⊎ ((t ≡ false) × (other ≡ Some x))
tried true this other x e = inl (refl, e)
tried false this other x e = inr (refl, e)

-- a byte in front
Takes-one : (byte n : ℕ) (bytes text rest : List ℕ) → byte ≡ n → Takes bytes text rest → Takes (byte ∷ bytes) (n ∷ text) rest
Takes-one byte n bytes text rest is t = record { parts = ap (λ (b : ℕ). b ∷ bytes) is ∙ ap (λ (l : List ℕ). n ∷ l) t.parts; rest_fits = t.rest_fits }

pub flag_takes : (bytes : List ℕ) (x : Bool × List ℕ) → IsBytes bytes → flag_at bytes ≡ Some x → Takes bytes (flag_byte x.0 ∷ []) x.1
unfolding flag_at
flag_takes [] x fits e = absurd cc
flag_takes (byte ∷ bytes) x fits e =
    let rest = IsBytes-rest byte bytes fits in
    let no : Bool × List ℕ = (false, bytes) in
    let yes : Bool × List ℕ = (true, bytes) in
    elim (tried (eqb byte 0) (Some no) (cond (eqb byte 1) (Some yes) None) x e) [
      | inl h ↦ subst (λ (y : Bool × List ℕ). Takes (byte ∷ bytes) (flag_byte y.0 ∷ []) y.1) (some_is no x h.1) (record { parts = ap (λ (n : ℕ). n ∷ bytes) (eqb-true byte 0 h.0); rest_fits = rest })
      | inr f ↦
          let g = if_some (eqb byte 1) (Some yes) x f.1 in
          subst (λ (y : Bool × List ℕ). Takes (byte ∷ bytes) (flag_byte y.0 ∷ []) y.1) (some_is yes x g.1) (record { parts = ap (λ (n : ℕ). n ∷ bytes) (eqb-true byte 1 g.0); rest_fits = rest })
    ]

pub flag_again : (flag : Bool) (rest : List ℕ) → flag_at (flag_byte flag ∷ rest) ≡ Some (flag, rest)
unfolding flag_at
flag_again false rest = refl
flag_again true rest = refl

want_is : (flag : Bool) → want_byte (want_of flag) ≡ flag_byte flag
want_is false = refl
want_is true = refl

flag_of : Want → Bool
flag_of Read = false
flag_of Write = true

flag_is : (want : Want) → (flag : Bool) × (want_byte want ≡ flag_byte flag) × (want_of flag ≡ want)
flag_is Read = (false, refl, refl)
flag_is Write = (true, refl, refl)

-- ---- openings

enter_takes : (bytes : List ℕ) (x : Request × List ℕ) → IsBytes bytes → enter_at bytes ≡ Some x → Takes (1 ∷ bytes) (request_bytes x.0) x.1 × IsWithinLimits x.0
unfolding enter_at
enter_takes bytes x fits e =
    let a = bind_some (user_at bytes) (λ user. repo_at user.1 >>= λ repo. flag_at repo.1 >>= λ flag. Some (Enter user.0 repo.0 (want_of flag.0), flag.1)) x e in
    let b = bind_some (repo_at a.0.1) (λ repo. flag_at repo.1 >>= λ flag. Some (Enter a.0.0 repo.0 (want_of flag.0), flag.1)) x a.2 in
    let c = bind_some (flag_at b.0.1) (λ flag. Some (Enter a.0.0 b.0.0 (want_of flag.0), flag.1)) x b.2 in
    let ta = user_takes bytes a.0 fits a.1 in
    let tb = repo_takes a.0.1 b.0 ta.0.rest_fits b.1 in
    let tc = flag_takes b.0.1 c.0 tb.0.rest_fits c.1 in
    let tw : Takes b.0.1 (want_byte (want_of c.0.0) ∷ []) c.0.1 = subst (λ (n : ℕ). Takes b.0.1 (n ∷ []) c.0.1) (sym (want_is c.0.0)) tc in
    let bc = Takes-then a.0.1 (text_bytes b.0.0) b.0.1 (want_byte (want_of c.0.0) ∷ []) c.0.1 tb.0 tw in
    let abc = Takes-then bytes (text_bytes a.0.0) a.0.1 (text_bytes b.0.0 ++ want_byte (want_of c.0.0) ∷ []) c.0.1 ta.0 bc in
    let made : Request × List ℕ = (Enter a.0.0 b.0.0 (want_of c.0.0), c.0.1) in
    subst (λ (y : Request × List ℕ). Takes (1 ∷ bytes) (request_bytes y.0) y.1 × IsWithinLimits y.0) (some_is made x c.2)
    (Takes-one 1 1 bytes _ c.0.1 refl abc, record { asker = ta.1; asked_for = tb.1 })

enter_again : (user repo : List ℕ) (want : Want) (rest : List ℕ) → AreNames user repo → enter_at ((text_bytes user ++ (text_bytes repo ++ want_byte want ∷ [])) ++ rest) ≡ Some (Enter user repo want, rest)
unfolding enter_at
enter_again user repo want rest are =
    let f = flag_is want in
    let regrouped : (text_bytes user ++ (text_bytes repo ++ want_byte want ∷ [])) ++ rest ≡ text_bytes user ++ (text_bytes repo ++ flag_byte f.0 ∷ rest) =
    append_assoc (text_bytes user) (text_bytes repo ++ want_byte want ∷ []) rest ∙ ap (λ (l : List ℕ). text_bytes user ++ l) (append_assoc (text_bytes repo) (want_byte want ∷ []) rest)
    ∙ ap (λ (n : ℕ). text_bytes user ++ (text_bytes repo ++ n ∷ rest)) f.1 in
    ap enter_at regrouped
    ∙ rw (user_again user (text_bytes repo ++ flag_byte f.0 ∷ rest) are.asker, repo_again repo (flag_byte f.0 ∷ rest) are.asked_for, flag_again f.0 rest) (ap (λ (w : Want). Some (Enter user repo w, rest)) f.2)

-- ---- pushes

each_short : (commands : List Command) → AllByRecursion IsCommand commands → AllByRecursion (λ (c : Command). length c.name ≤ 1024) commands
each_short [] is = tt
each_short (c ∷ cs) is = (is.0.short, each_short cs is.1)

each_ids : (commands : List Command) → AllByRecursion IsCommand commands → AllByRecursion HasIds commands
each_ids [] is = tt
each_ids (c ∷ cs) is = (is.0.ids, each_ids cs is.1)

each_both : (commands : List Command) → AllByRecursion (λ (c : Command). length c.name ≤ 1024) commands → AllByRecursion HasIds commands → AllByRecursion IsCommand commands
each_both [] short ids = tt
each_both (c ∷ cs) short ids = (record { ids = ids.0; short = short.0 }, each_both cs short.1 ids.1)

push_takes : (bytes : List ℕ) (x : Request × List ℕ) → IsBytes bytes → push_at bytes ≡ Some x → Takes (2 ∷ bytes) (request_bytes x.0) x.1 × IsWithinLimits x.0
unfolding push_at
push_takes bytes x fits e =
    let a = bind_some (number_at w64 bytes) (λ place. flag_at place.1 >>= λ atomic. commands_at atomic.1 >>= λ commands. pack_at commands.1 >>= λ pack. Some (Push place.0 pack.0 commands.0 atomic.0, pack.1)) x e in
    let b = bind_some (flag_at a.0.1) (λ atomic. commands_at atomic.1 >>= λ commands. pack_at commands.1 >>= λ pack. Some (Push a.0.0 pack.0 commands.0 atomic.0, pack.1)) x a.2 in
    let c = bind_some (commands_at b.0.1) (λ commands. pack_at commands.1 >>= λ pack. Some (Push a.0.0 pack.0 commands.0 b.0.0, pack.1)) x b.2 in
    let d = bind_some (pack_at c.0.1) (λ pack. Some (Push a.0.0 pack.0 c.0.0 b.0.0, pack.1)) x c.2 in
    let ta = number_takes w64 (2 ^ 64) wide64 bytes a.0 fits a.1 in
    let tb = flag_takes a.0.1 b.0 ta.0.rest_fits b.1 in
    let tc = commands_take b.0.1 c.0 tb.rest_fits c.1 in
    let td = pack_takes c.0.1 d.0 tc.0.rest_fits d.1 in
    let cd = Takes-then b.0.1 (commands_bytes c.0.0) c.0.1 (pack_bytes d.0.0) d.0.1 tc.0 td.0 in
    let bcd = Takes-then a.0.1 (flag_byte b.0.0 ∷ []) b.0.1 (commands_bytes c.0.0 ++ pack_bytes d.0.0) d.0.1 tb cd in
    let abcd = Takes-then bytes (to_be_bytes w64 a.0.0) a.0.1 (flag_byte b.0.0 ∷ (commands_bytes c.0.0 ++ pack_bytes d.0.0)) d.0.1 ta.0 bcd in
    let made : Request × List ℕ = (Push a.0.0 d.0.0 c.0.0 b.0.0, d.0.1) in
    subst (λ (y : Request × List ℕ). Takes (2 ∷ bytes) (request_bytes y.0) y.1 × IsWithinLimits y.0) (some_is made x d.2)
    (Takes-one 2 2 bytes _ d.0.1 refl abcd, (ta.1, record { few = tc.1.few; short = each_short c.0.0 tc.1.each; ids = each_ids c.0.0 tc.1.each }, td.1))

push_again : (place : ℕ) (pack : List Content) (commands : List Command) (atomic : Bool) (rest : List ℕ) → (place < 2 ^ 64) × AreStorable commands × FitOnePack pack
    → push_at ((to_be_bytes w64 place ++ flag_byte atomic ∷ (commands_bytes commands ++ pack_bytes pack)) ++ rest) ≡ Some (Push place pack commands atomic, rest)
unfolding push_at
push_again place pack commands atomic rest is =
    let regrouped : (to_be_bytes w64 place ++ flag_byte atomic ∷ (commands_bytes commands ++ pack_bytes pack)) ++ rest ≡ to_be_bytes w64 place ++ flag_byte atomic ∷ (commands_bytes commands ++ (pack_bytes pack ++ rest)) =
    append_assoc (to_be_bytes w64 place) (flag_byte atomic ∷ (commands_bytes commands ++ pack_bytes pack)) rest
    ∙ ap (λ (l : List ℕ). to_be_bytes w64 place ++ flag_byte atomic ∷ l) (append_assoc (commands_bytes commands) (pack_bytes pack) rest) in
    let are : AreCommands commands = record { few = is.1.few; each = each_both commands is.1.short is.1.ids } in
    ap push_at regrouped
    ∙ rw (number_again w64 (2 ^ 64) wide64 place (flag_byte atomic ∷ (commands_bytes commands ++ (pack_bytes pack ++ rest))) is.0, flag_again atomic (commands_bytes commands ++ (pack_bytes pack ++ rest)), commands_again commands (pack_bytes pack ++ rest) are, pack_again pack rest is.2) refl

-- ---- changes of roles

holder_takes : (bytes : List ℕ) (x : (List ℕ × List ℕ) × List ℕ) → IsBytes bytes → holder_at bytes ≡ Some x → Takes bytes (text_bytes x.0.0 ++ text_bytes x.0.1) x.1 × (length x.0.0 ≤ 65516) × (is_user_name x.0.1 ≡ true)
unfolding holder_at
holder_takes bytes x fits e =
    let a = bind_some (text_at 65516 bytes) (λ role. user_at role.1 >>= λ user. Some ((role.0, user.0), user.1)) x e in
    let b = bind_some (user_at a.0.1) (λ user. Some ((a.0.0, user.0), user.1)) x a.2 in
    let ta = text_takes 65516 bytes a.0 fits a.1 in
    let tb = user_takes a.0.1 b.0 ta.0.rest_fits b.1 in
    let made : (List ℕ × List ℕ) × List ℕ = ((a.0.0, b.0.0), b.0.1) in
    subst (λ (y : (List ℕ × List ℕ) × List ℕ). Takes bytes (text_bytes y.0.0 ++ text_bytes y.0.1) y.1 × (length y.0.0 ≤ 65516) × (is_user_name y.0.1 ≡ true)) (some_is made x b.2)
    (Takes-then bytes (text_bytes a.0.0) a.0.1 (text_bytes b.0.0) b.0.1 ta.0 tb.0, ta.1, tb.1)

holder_again : (role user rest : List ℕ) → length role ≤ 65516 → is_user_name user ≡ true → holder_at ((text_bytes role ++ text_bytes user) ++ rest) ≡ Some ((role, user), rest)
unfolding holder_at
holder_again role user rest short is =
    ap holder_at (append_assoc (text_bytes role) (text_bytes user) rest)
    ∙ rw (text_again 65516 role (text_bytes user ++ rest) (omega arith) short, user_again user rest is) refl

abbrev AreTaken : List ℕ → PermChange × List ℕ → Type 0
AreTaken bytes y = Takes bytes (change_bytes y.0) y.1 × IsOfUser y.0 × HasShortRole y.0

granted : (byte : ℕ) (bytes : List ℕ) (x : PermChange × List ℕ) → byte ≡ 0 → IsBytes bytes → (holder_at bytes >>= grant) ≡ Some x → AreTaken (byte ∷ bytes) x
granted byte bytes x is fits e =
    let a = bind_some (holder_at bytes) grant x e in
    let t = holder_takes bytes a.0 fits a.1 in
    let made : PermChange × List ℕ = (change.Grant a.0.0.0 a.0.0.1, a.0.1) in
    subst (AreTaken (byte ∷ bytes)) (some_is made x a.2) (Takes-one byte 0 bytes _ a.0.1 is t.0, t.2, t.1)

revoked : (byte : ℕ) (bytes : List ℕ) (x : PermChange × List ℕ) → byte ≡ 1 → IsBytes bytes → (holder_at bytes >>= revoke) ≡ Some x → AreTaken (byte ∷ bytes) x
revoked byte bytes x is fits e =
    let a = bind_some (holder_at bytes) revoke x e in
    let t = holder_takes bytes a.0 fits a.1 in
    let made : PermChange × List ℕ = (change.Revoke a.0.0.0 a.0.0.1, a.0.1) in
    subst (AreTaken (byte ∷ bytes)) (some_is made x a.2) (Takes-one byte 1 bytes _ a.0.1 is t.0, t.2, t.1)

change_takes : (bytes : List ℕ) (x : PermChange × List ℕ) → IsBytes bytes → change_at bytes ≡ Some x → AreTaken bytes x
unfolding change_at
change_takes [] x fits e = absurd cc
change_takes (byte ∷ bytes) x fits e =
    let rest = IsBytes-rest byte bytes fits in
    let listed : PermChange × List ℕ = (change.List, bytes) in
    elim (tried (eqb byte 0) (holder_at bytes >>= grant) (cond (eqb byte 1) (holder_at bytes >>= revoke) (cond (eqb byte 2) (Some listed) None)) x e) [
      | inl h ↦ granted byte bytes x (eqb-true byte 0 h.0) rest h.1
      | inr f ↦ elim (tried (eqb byte 1) (holder_at bytes >>= revoke) (cond (eqb byte 2) (Some listed) None) x f.1) [
        | inl h ↦ revoked byte bytes x (eqb-true byte 1 h.0) rest h.1
        | inr f2 ↦
            let g = if_some (eqb byte 2) (Some listed) x f2.1 in
            subst (AreTaken (byte ∷ bytes)) (some_is listed x g.1) (record { parts = ap (λ (n : ℕ). n ∷ bytes) (eqb-true byte 2 g.0); rest_fits = rest }, tt, omega arith)
      ]
    ]

change_again : (asked : PermChange) (rest : List ℕ) → IsOfUser asked → HasShortRole asked → change_at (change_bytes asked ++ rest) ≡ Some (asked, rest)
unfolding change_at
change_again (change.Grant role user) rest of short = ap (λ (o : Option ((List ℕ × List ℕ) × List ℕ)). o >>= grant) (holder_again role user rest short of)
change_again (change.Revoke role user) rest of short = ap (λ (o : Option ((List ℕ × List ℕ) × List ℕ)). o >>= revoke) (holder_again role user rest short of)
change_again change.List rest of short = refl

permit_takes : (bytes : List ℕ) (x : Request × List ℕ) → IsBytes bytes → permit_at bytes ≡ Some x → Takes (3 ∷ bytes) (request_bytes x.0) x.1 × IsWithinLimits x.0
unfolding permit_at
permit_takes bytes x fits e =
    let a = bind_some (user_at bytes) (λ user. repo_at user.1 >>= λ repo. change_at repo.1 >>= λ asked. Some (Permit user.0 repo.0 asked.0, asked.1)) x e in
    let b = bind_some (repo_at a.0.1) (λ repo. change_at repo.1 >>= λ asked. Some (Permit a.0.0 repo.0 asked.0, asked.1)) x a.2 in
    let c = bind_some (change_at b.0.1) (λ asked. Some (Permit a.0.0 b.0.0 asked.0, asked.1)) x b.2 in
    let ta = user_takes bytes a.0 fits a.1 in
    let tb = repo_takes a.0.1 b.0 ta.0.rest_fits b.1 in
    let tc = change_takes b.0.1 c.0 tb.0.rest_fits c.1 in
    let bc = Takes-then a.0.1 (text_bytes b.0.0) b.0.1 (change_bytes c.0.0) c.0.1 tb.0 tc.0 in
    let abc = Takes-then bytes (text_bytes a.0.0) a.0.1 (text_bytes b.0.0 ++ change_bytes c.0.0) c.0.1 ta.0 bc in
    let made : Request × List ℕ = (Permit a.0.0 b.0.0 c.0.0, c.0.1) in
    subst (λ (y : Request × List ℕ). Takes (3 ∷ bytes) (request_bytes y.0) y.1 × IsWithinLimits y.0) (some_is made x c.2)
    (Takes-one 3 3 bytes _ c.0.1 refl abc, (record { asker = ta.1; asked_for = tb.1 }, tc.1, tc.2))

permit_again : (user repo : List ℕ) (asked : PermChange) (rest : List ℕ) → AreNames user repo × IsOfUser asked × HasShortRole asked → permit_at ((text_bytes user ++ (text_bytes repo ++ change_bytes asked)) ++ rest) ≡ Some (Permit user repo asked, rest)
unfolding permit_at
permit_again user repo asked rest is =
    let regrouped : (text_bytes user ++ (text_bytes repo ++ change_bytes asked)) ++ rest ≡ text_bytes user ++ (text_bytes repo ++ (change_bytes asked ++ rest)) =
    append_assoc (text_bytes user) (text_bytes repo ++ change_bytes asked) rest ∙ ap (λ (l : List ℕ). text_bytes user ++ l) (append_assoc (text_bytes repo) (change_bytes asked) rest) in
    ap permit_at regrouped
    ∙ rw (user_again user (text_bytes repo ++ (change_bytes asked ++ rest)) is.0.asker, repo_again repo (change_bytes asked ++ rest) is.0.asked_for, change_again asked rest is.1 is.2) refl

-- ---- listings

look_takes : (bytes : List ℕ) (x : Request × List ℕ) → IsBytes bytes → look_at bytes ≡ Some x → Takes (4 ∷ bytes) (request_bytes x.0) x.1 × IsWithinLimits x.0
unfolding look_at
look_takes bytes x fits e =
    let a = bind_some (user_at bytes) (λ user. Some (Look user.0, user.1)) x e in
    let ta = user_takes bytes a.0 fits a.1 in
    let made : Request × List ℕ = (Look a.0.0, a.0.1) in
    subst (λ (y : Request × List ℕ). Takes (4 ∷ bytes) (request_bytes y.0) y.1 × IsWithinLimits y.0) (some_is made x a.2) (Takes-one 4 4 bytes _ a.0.1 refl ta.0, ta.1)

look_again : (user rest : List ℕ) → is_user_name user ≡ true → look_at (text_bytes user ++ rest) ≡ Some (Look user, rest)
unfolding look_at
look_again user rest is = rw (user_again user rest is) refl

-- ---- requests and bodies

abbrev IsTaken : List ℕ → Request × List ℕ → Type 0
IsTaken bytes y = Takes bytes (request_bytes y.0) y.1 × IsWithinLimits y.0

tagged : (byte n : ℕ) (bytes : List ℕ) (x : Request × List ℕ) → eqb byte n ≡ true → IsTaken (n ∷ bytes) x → IsTaken (byte ∷ bytes) x
tagged byte n bytes x is taken = subst (λ (b : ℕ). IsTaken (b ∷ bytes) x) (sym (eqb-true byte n is)) taken

request_takes : (bytes : List ℕ) (x : Request × List ℕ) → IsBytes bytes → request_at bytes ≡ Some x → IsTaken bytes x
unfolding request_at
request_takes [] x fits e = absurd cc
request_takes (byte ∷ bytes) x fits e =
    let rest = IsBytes-rest byte bytes fits in
    elim (tried (eqb byte 1) (enter_at bytes) (cond (eqb byte 2) (push_at bytes) (cond (eqb byte 3) (permit_at bytes) (cond (eqb byte 4) (look_at bytes) None))) x e) [
      | inl h ↦ tagged byte 1 bytes x h.0 (enter_takes bytes x rest h.1)
      | inr f ↦ elim (tried (eqb byte 2) (push_at bytes) (cond (eqb byte 3) (permit_at bytes) (cond (eqb byte 4) (look_at bytes) None)) x f.1) [
        | inl h ↦ tagged byte 2 bytes x h.0 (push_takes bytes x rest h.1)
        | inr f2 ↦ elim (tried (eqb byte 3) (permit_at bytes) (cond (eqb byte 4) (look_at bytes) None) x f2.1) [
          | inl h ↦ tagged byte 3 bytes x h.0 (permit_takes bytes x rest h.1)
          | inr f3 ↦ let g = if_some (eqb byte 4) (look_at bytes) x f3.1 in tagged byte 4 bytes x g.0 (look_takes bytes x rest g.1)
        ]
      ]
    ]

request_again : (request : Request) (rest : List ℕ) → IsWithinLimits request → request_at (request_bytes request ++ rest) ≡ Some (request, rest)
unfolding request_at
request_again (Enter user repo want) rest is = enter_again user repo want rest is
request_again (Push place pack commands atomic) rest is = push_again place pack commands atomic rest is
request_again (Permit user repo asked) rest is = permit_again user repo asked rest is
request_again (Look user) rest is = look_again user rest is

pub body_takes : (bytes : List ℕ) (x : ℕ × Request) → IsBytes bytes → body_at bytes ≡ Some x → IsStorable x.0 x.1 × (bytes ≡ body_of x.0 x.1)
unfolding body_at
body_takes bytes x fits e =
    let a = bind_some (number_at w64 bytes) (λ caller. request_at caller.1 >>= λ request. cond (eqb (length request.1) 0) (Some (caller.0, request.0)) None) x e in
    let b = bind_some (request_at a.0.1) (λ request. cond (eqb (length request.1) 0) (Some (a.0.0, request.0)) None) x a.2 in
    let g = if_some (eqb (length b.0.1) 0) (Some (a.0.0, b.0.0)) x b.2 in
    let ta = number_takes w64 (2 ^ 64) wide64 bytes a.0 fits a.1 in
    let tb = request_takes a.0.1 b.0 ta.0.rest_fits b.1 in
    let nothing : b.0.1 ≡ [] = nil_from_length b.0.1 (eqb-true _ _ g.0) in
    let both = (Takes-then bytes (to_be_bytes w64 a.0.0) a.0.1 (request_bytes b.0.0) b.0.1 ta.0 tb.0).parts in
    let whole : bytes ≡ body_of a.0.0 b.0.0 = both ∙ ap (λ (l : List ℕ). (to_be_bytes w64 a.0.0 ++ request_bytes b.0.0) ++ l) nothing ∙ append-nil (to_be_bytes w64 a.0.0 ++ request_bytes b.0.0) in
    let made : ℕ × Request = (a.0.0, b.0.0) in
    subst (λ (y : ℕ × Request). IsStorable y.0 y.1 × (bytes ≡ body_of y.0 y.1)) (some_is made x g.1) ((ta.1, tb.1), whole)

pub body_again : (caller : ℕ) (request : Request) → IsStorable caller request → body_at (body_of caller request) ≡ Some (caller, request)
unfolding body_at
body_again caller request is =
    let rest : request_at (request_bytes request) ≡ Some (request, []) = ap request_at (sym (append-nil (request_bytes request))) ∙ request_again request [] is.1 in
    rw (number_again w64 (2 ^ 64) wide64 caller (request_bytes request) is.0, rest) refl

-- a body is that of one caller and one request
pub one_body : (caller other : ℕ) (request another : Request) → IsStorable caller request → IsStorable other another → body_of caller request ≡ body_of other another → (caller ≡ other) × (request ≡ another)
one_body caller other request another is has e =
    let both : Some (caller, request) ≡ Some (other, another) = sym (body_again caller request is) ∙ ap body_at e ∙ body_again other another has in
    let same = some_is (caller, request) (other, another) both in
    (ap (λ (p : ℕ × Request). p.0) same, ap (λ (p : ℕ × Request). p.1) same)

-- the first bytes of a push's body say where its opening is
pub front_again : (caller place : ℕ) (pack : List Content) (commands : List Command) (atomic : Bool) → IsStorable caller (Push place pack commands atomic) → place_at (take 17 (body_of caller (Push place pack commands atomic))) ≡ Some place
front_again caller place pack commands atomic is = ap (λ (n : ℕ). Some n) (from_be_bytes-to_be_bytes_8 place is.1.0)
