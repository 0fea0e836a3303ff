-- A field that is read is the field that was written, and what was written is read again.
use Rattle.std.proofs.Common.{◌≡◌, ℕ, zero, suc, ◌+◌, ◌-◌, ◌^◌, ◌<◌, ◌≤◌, Bool, true, false, cond, ltb, leb, eqb, List, [], ◌∷◌, ◌++◌, length, get_or, take, drop, Option, Some, None, refl, sym, ap, subst, ◌∙◌, append_assoc, arith, inl, inr, ◌⊎◌}
use Rattle.std.specs.Prelude.{◌&&◌, is_none, codes, not, nat_eq}
use Rattle.std.specs.List.{flat_map, AllByRecursion, list_all, ends_with}
use Rattle.std.specs.Int.{Width, w16, w32, w64, byte_len, from_be_bytes, to_be_bytes}
use Rattle.std.proofs.lemmas.Bool.{cases_lt, ltb-false, le-ltb, eqb-true, leb-true}
use Rattle.std.proofs.lemmas.List.{take_at, drop_at, take-append-drop, length-append, length-take, get_or-drop, get_or-take, get_or_past}
use Rattle.std.proofs.lemmas.List.Concat.{flat_map-cons}
use Rattle.std.proofs.lemmas.Nat.{be_bytes_2, be_bytes_4, be_bytes_8, from_be_bytes-to_be_bytes_2, from_be_bytes-to_be_bytes_4, from_be_bytes-to_be_bytes_8}
use Rattle.conf_lex.specs.Names.{begins_with_letter_or_digit, is_name_byte, is_piece, is_repo_name, is_role, is_user_name, name_pieces, occurs}
use Rattle.git_object.specs.Content.{Content}
use Rattle.git_object.specs.Object.{fault_of}
use Rattle.git_object.specs.ObjectId.{id_from}
use Rattle.git_object.specs.declared.fault.ObjFault.{ObjFault}
use Rattle.git_object.specs.declared.object_id.ObjectId.{ObjectId}
use Rattle.git_object.specs.declared.kind.Kind.{Kind}
use Rattle.git_object.specs.declared.kind.Kind.TheVariants.{Commit, Tree, Blob, Tag}
use Rattle.ref_store.specs.declared.command.Command.{Command}
use Rattle.event_record.specs.Fields.{text_bytes, kind_byte, command_bytes, object_bytes, IsId, HasIds}
use Rattle.event_record.specs.Reading.{◌>>=◌, bytes_at, number_at, text_at, user_at, repo_at, id_at, kind_at, kind_of_byte, command_at, object_at, items_at}

abbrev pub IsBytes : List ℕ → Type 0
IsBytes bytes = (i : ℕ) → get_or bytes i 0 < 256

IsBytes-drop : (n : ℕ) (bytes : List ℕ) → IsBytes bytes → IsBytes (drop n bytes)
IsBytes-drop n bytes h i = rw get_or-drop (h (n + i))

IsBytes-take : (n : ℕ) (bytes : List ℕ) → IsBytes bytes → IsBytes (take n bytes)
IsBytes-take n bytes h i =
    elim (cases_lt i n) [
      | inl lt ↦ rw (get_or-take n bytes i 0 lt) (h i)
      | inr le ↦ rw (get_or_past (take n bytes) i 0 (omega (arith, length-take n bytes))) (omega arith)
    ]

pub IsBytes-rest : (b : ℕ) (bytes : List ℕ) → IsBytes (b ∷ bytes) → IsBytes bytes
IsBytes-rest b bytes h i = h (suc i)

-- the value of a step that did not fail
pub bind_some : {A B : Type 0} (r : Option A) (f : A → Option B) (y : B) → (r >>= f) ≡ Some y → (x : A) × (r ≡ Some x) × (f x ≡ Some y)
bind_some (Some x) f y e = (x, refl, e)
bind_some None f y e = absurd cc

-- a test that did not fail
pub unless_some : {A : Type 0} (b : Bool) (r : Option A) (y : A) → cond b None r ≡ Some y → (b ≡ false) × (r ≡ Some y)
unless_some true r y e = absurd cc
unless_some false r y e = (refl, e)

pub if_some : {A : Type 0} (b : Bool) (r : Option A) (y : A) → cond b r None ≡ Some y → (b ≡ true) × (r ≡ Some y)
if_some true r y e = (refl, e)
if_some false r y e = absurd cc

abbrev found : {A : Type 0} → A → Option A
found x = Some x

pub some_is : {A : Type 0} (x y : A) → found x ≡ found y → x ≡ y
some_is x y e = cc

-- what a reader took from the front
pub record Takes (bytes text rest : List ℕ) : Type 0 where
  pub parts : bytes ≡ text ++ rest
  pub rest_fits : IsBytes rest

pub Takes-then : (a x b y c : List ℕ) → Takes a x b → Takes b y c → Takes a (x ++ y) c
Takes-then a x b y c p q = record { parts = p.parts ∙ ap (λ (t : List ℕ). x ++ t) q.parts ∙ sym (append_assoc x y c); rest_fits = q.rest_fits }

-- ---- numbers

pub record IsWide (w : Width) (limit : ℕ) : Type 0 where
  pub len : (n : ℕ) → length (to_be_bytes w n) ≡ byte_len w
  pub back : (bytes : List ℕ) → length bytes ≡ byte_len w → IsBytes bytes → to_be_bytes w (from_be_bytes w bytes) ≡ bytes
  pub again : (n : ℕ) → n < limit → from_be_bytes w (to_be_bytes w n) ≡ n
  pub below : (bytes : List ℕ) → IsBytes bytes → from_be_bytes w bytes < limit

pub wide16 : IsWide w16 (2 ^ 16)
wide16 = record {
  len = λ n. refl;
  back = λ bytes len fits. be_bytes_2 bytes _ len fits refl;
  again = λ n lt. from_be_bytes-to_be_bytes_2 n lt;
  below = λ bytes fits. omega (arith, fits 0, fits 1);
}

pub wide32 : IsWide w32 (2 ^ 32)
wide32 = record {
  len = λ n. refl;
  back = λ bytes len fits. be_bytes_4 bytes _ len fits refl;
  again = λ n lt. from_be_bytes-to_be_bytes_4 n lt;
  below = λ bytes fits. omega (arith, fits 0, fits 1, fits 2, fits 3);
}

pub wide64 : IsWide w64 (2 ^ 64)
wide64 = record {
  len = λ n. refl;
  back = λ bytes len fits. be_bytes_8 bytes _ len fits refl;
  again = λ n lt. from_be_bytes-to_be_bytes_8 n lt;
  below = λ bytes fits. omega (arith, fits 0, fits 1, fits 2, fits 3, fits 4, fits 5, fits 6, fits 7);
}

pub number_takes : (w : Width) (limit : ℕ) (wide : IsWide w limit) (bytes : List ℕ) (x : ℕ × List ℕ) → IsBytes bytes → number_at w bytes ≡ Some x → Takes bytes (to_be_bytes w x.0) x.1 × (x.0 < limit)
number_takes w limit wide bytes x fits e =
    let g = unless_some (ltb (length bytes) (byte_len w)) (Some (from_be_bytes w (take (byte_len w) bytes), drop (byte_len w) bytes)) x e in
    let long : byte_len w ≤ length bytes = ltb-false _ _ g.0 in
    let made : ℕ × List ℕ = (from_be_bytes w (take (byte_len w) bytes), drop (byte_len w) bytes) in
    let front : to_be_bytes w made.0 ≡ take (byte_len w) bytes = wide.back (take (byte_len w) bytes) (omega (arith, length-take (byte_len w) bytes)) (IsBytes-take (byte_len w) bytes fits) in
    let parts : bytes ≡ to_be_bytes w made.0 ++ made.1 = sym (take-append-drop (byte_len w) bytes) ∙ ap (λ (l : List ℕ). l ++ drop (byte_len w) bytes) (sym front) in
    subst (λ (y : ℕ × List ℕ). Takes bytes (to_be_bytes w y.0) y.1 × (y.0 < limit)) (some_is made x g.1)
    (record { parts = parts; rest_fits = IsBytes-drop (byte_len w) bytes fits }, wide.below (take (byte_len w) bytes) (IsBytes-take (byte_len w) bytes fits))

pub number_again : (w : Width) (limit : ℕ) (wide : IsWide w limit) (n : ℕ) (rest : List ℕ) → n < limit → number_at w (to_be_bytes w n ++ rest) ≡ Some (n, rest)
number_again w limit wide n rest lt =
    let len = wide.len n in
    let long : ltb (length (to_be_bytes w n ++ rest)) (byte_len w) ≡ false = le-ltb _ _ (omega (arith, length-append (to_be_bytes w n) rest)) in
    rw (long, take_at (to_be_bytes w n) rest (byte_len w) len, drop_at (to_be_bytes w n) rest (byte_len w) len, wide.again n lt) refl

-- ---- bytes and texts

pub bytes_takes : (count : ℕ) (bytes : List ℕ) (x : List ℕ × List ℕ) → IsBytes bytes → bytes_at count bytes ≡ Some x → Takes bytes x.0 x.1 × (length x.0 ≡ count)
bytes_takes count bytes x fits e =
    let g = unless_some (ltb (length bytes) count) (Some (take count bytes, drop count bytes)) x e in
    let long : count ≤ length bytes = ltb-false _ _ g.0 in
    let made : List ℕ × List ℕ = (take count bytes, drop count bytes) in
    subst (λ (y : List ℕ × List ℕ). Takes bytes y.0 y.1 × (length y.0 ≡ count)) (some_is made x g.1)
    (record { parts = sym (take-append-drop count bytes); rest_fits = IsBytes-drop count bytes fits }, omega (arith, length-take count bytes))

pub bytes_again : (count : ℕ) (text rest : List ℕ) → length text ≡ count → bytes_at count (text ++ rest) ≡ Some (text, rest)
bytes_again count text rest len =
    let long : ltb (length (text ++ rest)) count ≡ false = le-ltb _ _ (omega (arith, length-append text rest)) in
    rw (long, take_at text rest count len, drop_at text rest count len) refl

pub text_takes : (most : ℕ) (bytes : List ℕ) (x : List ℕ × List ℕ) → IsBytes bytes → text_at most bytes ≡ Some x → Takes bytes (text_bytes x.0) x.1 × (length x.0 ≤ most)
unfolding text_at
text_takes most bytes x fits e =
    let a = bind_some (number_at w16 bytes) (λ size. cond (ltb most size.0) None (bytes_at size.0 size.1)) x e in
    let g = unless_some (ltb most a.0.0) (bytes_at a.0.0 a.0.1) x a.2 in
    let t = number_takes w16 (2 ^ 16) wide16 bytes a.0 fits a.1 in
    let b = bytes_takes a.0.0 a.0.1 x t.0.rest_fits g.1 in
    let few : a.0.0 ≤ most = ltb-false _ _ g.0 in
    let both = Takes-then bytes (to_be_bytes w16 a.0.0) a.0.1 x.0 x.1 t.0 b.0 in
    (subst (λ (k : ℕ). Takes bytes (to_be_bytes w16 k ++ x.0) x.1) (sym b.1) both, omega (arith, b.1, few))

pub text_again : (most : ℕ) (text rest : List ℕ) → most < 2 ^ 16 → length text ≤ most → text_at most (text_bytes text ++ rest) ≡ Some (text, rest)
unfolding text_at
text_again most text rest wide le =
    let few : ltb most (length text) ≡ false = le-ltb _ _ le in
    let regrouped : text_bytes text ++ rest ≡ to_be_bytes w16 (length text) ++ (text ++ rest) = append_assoc (to_be_bytes w16 (length text)) text rest in
    ap (text_at most) regrouped ∙ rw (number_again w16 (2 ^ 16) wide16 (length text) (text ++ rest) (omega arith), few, bytes_again (length text) text rest refl) refl

-- ---- names

left_true : (a b : Bool) → (a && b) ≡ true → a ≡ true
left_true true b e = refl
left_true false b e = absurd cc

right_true : (a b : Bool) → (a && b) ≡ true → b ≡ true
right_true true b e = e
right_true false b e = absurd cc

second_of_five : (a b c d e : Bool) → (a && b && c && d && e) ≡ true → b ≡ true
second_of_five a b c d e h = right_true a b (left_true (a && b) c (left_true (a && b && c) d (left_true (a && b && c && d) e h)))

second_of_eight : (a b c d e f g h : Bool) → (a && b && c && d && e && f && g && h) ≡ true → b ≡ true
second_of_eight a b c d e f g h is =
    second_of_five a b c d e (left_true (a && b && c && d && e) f (left_true (a && b && c && d && e && f) g (left_true (a && b && c && d && e && f && g) h is)))

pub user_short : (name : List ℕ) → is_user_name name ≡ true → length name ≤ 64
user_short name is = leb-true (length name) 64 (second_of_five (leb 1 (length name)) (leb (length name) 64) (begins_with_letter_or_digit name) (list_all (is_name_byte (codes "-._@+")) name) (not (is_role name)) is)

pub repo_short : (name : List ℕ) → is_repo_name name ≡ true → length name ≤ 200
repo_short name is = leb-true (length name) 200 (second_of_eight (leb 1 (length name)) (leb (length name) 200) (begins_with_letter_or_digit name) (list_all (is_name_byte (codes "-._@/+")) name) (list_all is_piece (name_pieces name)) (not (occurs (codes "..") name)) (not (occurs (codes "CREATOR") name)) (not (ends_with nat_eq name (codes ".git"))) is)

pub user_takes : (bytes : List ℕ) (x : List ℕ × List ℕ) → IsBytes bytes → user_at bytes ≡ Some x → Takes bytes (text_bytes x.0) x.1 × (is_user_name x.0 ≡ true)
unfolding user_at
user_takes bytes x fits e =
    let a = bind_some (text_at 65535 bytes) (λ text. cond (is_user_name text.0) (Some text) None) x e in
    let g = if_some (is_user_name a.0.0) (Some a.0) x a.2 in
    let t = text_takes 65535 bytes a.0 fits a.1 in
    subst (λ (y : List ℕ × List ℕ). Takes bytes (text_bytes y.0) y.1 × (is_user_name y.0 ≡ true)) (some_is a.0 x g.1) (t.0, g.0)

pub user_again : (name rest : List ℕ) → is_user_name name ≡ true → user_at (text_bytes name ++ rest) ≡ Some (name, rest)
unfolding user_at
user_again name rest is = rw (text_again 65535 name rest (omega arith) (omega (arith, user_short name is)), is) refl

pub repo_takes : (bytes : List ℕ) (x : List ℕ × List ℕ) → IsBytes bytes → repo_at bytes ≡ Some x → Takes bytes (text_bytes x.0) x.1 × (is_repo_name x.0 ≡ true)
unfolding repo_at
repo_takes bytes x fits e =
    let a = bind_some (text_at 65535 bytes) (λ text. cond (is_repo_name text.0) (Some text) None) x e in
    let g = if_some (is_repo_name a.0.0) (Some a.0) x a.2 in
    let t = text_takes 65535 bytes a.0 fits a.1 in
    subst (λ (y : List ℕ × List ℕ). Takes bytes (text_bytes y.0) y.1 × (is_repo_name y.0 ≡ true)) (some_is a.0 x g.1) (t.0, g.0)

pub repo_again : (name rest : List ℕ) → is_repo_name name ≡ true → repo_at (text_bytes name ++ rest) ≡ Some (name, rest)
unfolding repo_at
repo_again name rest is = rw (text_again 65535 name rest (omega arith) (omega (arith, repo_short name is)), is) refl

-- ---- ids, kinds, commands, objects

pub id_takes : (bytes : List ℕ) (x : ObjectId × List ℕ) → IsBytes bytes → id_at bytes ≡ Some x → Takes bytes x.0.bytes x.1 × IsId x.0
unfolding id_at
id_takes bytes x fits e =
    let g = unless_some (ltb (length bytes) 20) (Some (id_from (take 20 bytes), drop 20 bytes)) x e in
    let long : 20 ≤ length bytes = ltb-false _ _ g.0 in
    let made : ObjectId × List ℕ = (id_from (take 20 bytes), drop 20 bytes) in
    subst (λ (y : ObjectId × List ℕ). Takes bytes y.0.bytes y.1 × IsId y.0) (some_is made x g.1)
    (record { parts = sym (take-append-drop 20 bytes); rest_fits = IsBytes-drop 20 bytes fits }, omega (arith, length-take 20 bytes))

pub id_again : (id : ObjectId) (rest : List ℕ) → IsId id → id_at (id.bytes ++ rest) ≡ Some (id, rest)
unfolding id_at
id_again id rest len =
    let long : ltb (length (id.bytes ++ rest)) 20 ≡ false = le-ltb _ _ (omega (arith, length-append id.bytes rest)) in
    rw (long, take_at id.bytes rest 20 len, drop_at id.bytes rest 20 len) refl

tried : (t : Bool) (this k : Kind) (others : Option Kind) → cond t (Some this) others ≡ Some k → ((t ≡ true) × (this ≡ k)) ⊎ ((t ≡ false) × (others ≡ Some k))
tried true this k others e = inl (refl, cc)
tried false this k others e = inr (refl, e)

byte_is : (b : ℕ) (k : Kind) → kind_of_byte b ≡ Some k → b ≡ kind_byte k
byte_is b k e =
    elim (tried (eqb b 1) Commit k _ e) [
      | inl h ↦ eqb-true _ _ h.0 ∙ ap kind_byte h.1
      | inr e2 ↦ elim (tried (eqb b 2) Tree k _ e2.1) [
        | inl h ↦ eqb-true _ _ h.0 ∙ ap kind_byte h.1
        | inr e3 ↦ elim (tried (eqb b 3) Blob k _ e3.1) [
          | inl h ↦ eqb-true _ _ h.0 ∙ ap kind_byte h.1
          | inr e4 ↦ elim (tried (eqb b 4) Tag k _ e4.1) [
            | inl h ↦ eqb-true _ _ h.0 ∙ ap kind_byte h.1
            | inr e5 ↦ absurd cc
          ]
        ]
      ]
    ]

pub kind_takes : (bytes : List ℕ) (x : Kind × List ℕ) → IsBytes bytes → kind_at bytes ≡ Some x → Takes bytes (kind_byte x.0 ∷ []) x.1
unfolding kind_at
kind_takes [] x fits e = absurd cc
kind_takes (b ∷ bytes) x fits e =
    let a = bind_some (kind_of_byte b) (λ kind. Some (kind, bytes)) x e in
    let made : Kind × List ℕ = (a.0, bytes) in
    subst (λ (y : Kind × List ℕ). Takes (b ∷ bytes) (kind_byte y.0 ∷ []) y.1) (some_is made x a.2)
    (record { parts = ap (λ (n : ℕ). n ∷ bytes) (byte_is b a.0 a.1); rest_fits = IsBytes-rest b bytes fits })

pub kind_again : (kind : Kind) (rest : List ℕ) → kind_at (kind_byte kind ∷ rest) ≡ Some (kind, rest)
unfolding kind_at
kind_again Commit rest = refl
kind_again Tree rest = refl
kind_again Blob rest = refl
kind_again Tag rest = refl

pub record IsCommand (command : Command) : Type 0 where
  pub ids : HasIds command
  pub short : length command.name ≤ 1024

pub command_takes : (bytes : List ℕ) (x : Command × List ℕ) → IsBytes bytes → command_at bytes ≡ Some x → Takes bytes (command_bytes x.0) x.1 × IsCommand x.0
unfolding command_at
command_takes bytes x fits e =
    let a = bind_some (id_at bytes) (λ old. id_at old.1 >>= λ new. text_at 1024 new.1 >>= λ name. Some (record { old = old.0; new = new.0; name = name.0 }, name.1)) x e in
    let b = bind_some (id_at a.0.1) (λ new. text_at 1024 new.1 >>= λ name. Some (record { old = a.0.0; new = new.0; name = name.0 }, name.1)) x a.2 in
    let c = bind_some (text_at 1024 b.0.1) (λ name. Some (record { old = a.0.0; new = b.0.0; name = name.0 }, name.1)) x b.2 in
    let ta = id_takes bytes a.0 fits a.1 in
    let tb = id_takes a.0.1 b.0 ta.0.rest_fits b.1 in
    let tc = text_takes 1024 b.0.1 c.0 tb.0.rest_fits c.1 in
    let bc = Takes-then a.0.1 b.0.0.bytes b.0.1 (text_bytes c.0.0) c.0.1 tb.0 tc.0 in
    let abc = Takes-then bytes a.0.0.bytes a.0.1 (b.0.0.bytes ++ text_bytes c.0.0) c.0.1 ta.0 bc in
    let made : Command × List ℕ = (record { old = a.0.0; new = b.0.0; name = c.0.0 }, c.0.1) in
    subst (λ (y : Command × List ℕ). Takes bytes (command_bytes y.0) y.1 × IsCommand y.0) (some_is made x c.2)
    (abc, record { ids = record { old = ta.1; new = tb.1 }; short = tc.1 })

pub command_again : (command : Command) (rest : List ℕ) → IsCommand command → command_at (command_bytes command ++ rest) ≡ Some (command, rest)
unfolding command_at
command_again command rest is =
    let regrouped : command_bytes command ++ rest ≡ command.old.bytes ++ (command.new.bytes ++ (text_bytes command.name ++ rest)) =
    append_assoc command.old.bytes (command.new.bytes ++ text_bytes command.name) rest ∙ ap (λ (l : List ℕ). command.old.bytes ++ l) (append_assoc command.new.bytes (text_bytes command.name) rest) in
    ap command_at regrouped
    ∙ rw (id_again command.old (command.new.bytes ++ (text_bytes command.name ++ rest)) is.ids.old, id_again command.new (text_bytes command.name ++ rest) is.ids.new, text_again 1024 command.name rest (omega arith) is.short) refl

pub record IsObject (object : Content) : Type 0 where
  pub short : length object.body ≤ 16777216
  pub form : fault_of object.kind object.body ≡ None

none_is : (o : Option ObjFault) → is_none o ≡ true → o ≡ None
none_is None e = refl
none_is (Some x) e = absurd cc

pub object_takes : (most : ℕ) (bytes : List ℕ) (x : Content × List ℕ) → IsBytes bytes → object_at most bytes ≡ Some x → Takes bytes (object_bytes x.0) x.1 × IsObject x.0 × (length x.0.body ≤ most)
unfolding object_at
object_takes most bytes x fits e =
    let a = bind_some (kind_at bytes) (λ kind. number_at w32 kind.1 >>= λ size. cond (ltb most size.0) None (cond (ltb 16777216 size.0) None (bytes_at size.0 size.1 >>= λ body. cond (is_none (fault_of kind.0 body.0)) (Some (record { kind = kind.0; body = body.0 }, body.1)) None))) x e in
    let b = bind_some (number_at w32 a.0.1) (λ size. cond (ltb most size.0) None (cond (ltb 16777216 size.0) None (bytes_at size.0 size.1 >>= λ body. cond (is_none (fault_of a.0.0 body.0)) (Some (record { kind = a.0.0; body = body.0 }, body.1)) None))) x a.2 in
    let g = unless_some (ltb most b.0.0) (cond (ltb 16777216 b.0.0) None (bytes_at b.0.0 b.0.1 >>= λ body. cond (is_none (fault_of a.0.0 body.0)) (Some (record { kind = a.0.0; body = body.0 }, body.1)) None)) x b.2 in
    let h = unless_some (ltb 16777216 b.0.0) (bytes_at b.0.0 b.0.1 >>= λ body. cond (is_none (fault_of a.0.0 body.0)) (Some (record { kind = a.0.0; body = body.0 }, body.1)) None) x g.1 in
    let c = bind_some (bytes_at b.0.0 b.0.1) (λ body. cond (is_none (fault_of a.0.0 body.0)) (Some (record { kind = a.0.0; body = body.0 }, body.1)) None) x h.1 in
    let f = if_some (is_none (fault_of a.0.0 c.0.0)) (Some (record { kind = a.0.0; body = c.0.0 }, c.0.1)) x c.2 in
    let ta = kind_takes bytes a.0 fits a.1 in
    let tb = number_takes w32 (2 ^ 32) wide32 a.0.1 b.0 ta.rest_fits b.1 in
    let tc = bytes_takes b.0.0 b.0.1 c.0 tb.0.rest_fits c.1 in
    let le_most : b.0.0 ≤ most = ltb-false _ _ g.0 in
    let le_max : b.0.0 ≤ 16777216 = ltb-false _ _ h.0 in
    let bc = Takes-then a.0.1 (to_be_bytes w32 b.0.0) b.0.1 c.0.0 c.0.1 tb.0 tc.0 in
    let abc = Takes-then bytes (kind_byte a.0.0 ∷ []) a.0.1 (to_be_bytes w32 b.0.0 ++ c.0.0) c.0.1 ta bc in
    let whole : Takes bytes (kind_byte a.0.0 ∷ (to_be_bytes w32 (length c.0.0) ++ c.0.0)) c.0.1 = subst (λ (k : ℕ). Takes bytes (kind_byte a.0.0 ∷ (to_be_bytes w32 k ++ c.0.0)) c.0.1) (sym tc.1) abc in
    let made : Content × List ℕ = (record { kind = a.0.0; body = c.0.0 }, c.0.1) in
    subst (λ (y : Content × List ℕ). Takes bytes (object_bytes y.0) y.1 × IsObject y.0 × (length y.0.body ≤ most)) (some_is made x f.1)
    (whole, record { short = omega (arith, tc.1, le_max); form = none_is (fault_of a.0.0 c.0.0) f.0 }, omega (arith, tc.1, le_most))

pub object_again : (most : ℕ) (object : Content) (rest : List ℕ) → IsObject object → length object.body ≤ most → object_at most (object_bytes object ++ rest) ≡ Some (object, rest)
unfolding object_at
object_again most object rest is le =
    let le_most : ltb most (length object.body) ≡ false = le-ltb _ _ le in
    let le_max : ltb 16777216 (length object.body) ≡ false = le-ltb _ _ is.short in
    let regrouped : object_bytes object ++ rest ≡ kind_byte object.kind ∷ (to_be_bytes w32 (length object.body) ++ (object.body ++ rest)) =
    ap (λ (l : List ℕ). kind_byte object.kind ∷ l) (append_assoc (to_be_bytes w32 (length object.body)) object.body rest) in
    ap (object_at most) regrouped
    ∙ rw (kind_again object.kind (to_be_bytes w32 (length object.body) ++ (object.body ++ rest)), number_again w32 (2 ^ 32) wide32 (length object.body) (object.body ++ rest) (omega (arith, is.short)), le_most, le_max, bytes_again (length object.body) object.body rest refl, is.form) refl

-- ---- items one after the other

-- what items cost together
abbrev pub total : {X : Type 0} → (X → ℕ) → List X → ℕ
total cost [] = 0
total cost (x ∷ xs) = cost x + total cost xs

pub record IsItemReader {X : Type 0} (read : ℕ → List ℕ → Option (X × List ℕ)) (cost : X → ℕ) (spell : X → List ℕ) (Fits : X → Type 0) : Type 0 where
  pub takes : (left : ℕ) (bytes : List ℕ) (x : X × List ℕ) → IsBytes bytes → read left bytes ≡ Some x → Takes bytes (spell x.0) x.1 × Fits x.0 × (cost x.0 ≤ left)
  pub again : (left : ℕ) (x : X) (rest : List ℕ) → Fits x → cost x ≤ left → read left (spell x ++ rest) ≡ Some (x, rest)

pub items_take : {X : Type 0} (read : ℕ → List ℕ → Option (X × List ℕ)) (cost : X → ℕ) (spell : X → List ℕ) (Fits : X → Type 0) → IsItemReader read cost spell Fits
    → (n left : ℕ) (bytes : List ℕ) (x : List X × List ℕ) → IsBytes bytes → items_at read cost n left bytes ≡ Some x → Takes bytes (flat_map spell x.0) x.1 × (length x.0 ≡ n) × AllByRecursion Fits x.0 × (total cost x.0 ≤ left)
unfolding items_at
items_take {X} read cost spell Fits is zero left bytes x fits e =
    subst (λ (y : List X × List ℕ). Takes bytes (flat_map spell y.0) y.1 × (length y.0 ≡ 0) × AllByRecursion Fits y.0 × (total cost y.0 ≤ left)) (some_is ([], bytes) x e) (record { parts = refl; rest_fits = fits }, refl, tt, omega arith)
items_take {X} read cost spell Fits is (suc n) left bytes x fits e =
    let a = bind_some (read left bytes) (λ first. items_at read cost n (left - cost first.0) first.1 >>= λ others. Some (first.0 ∷ others.0, others.1)) x e in
    let b = bind_some (items_at read cost n (left - cost a.0.0) a.0.1) (λ others. Some (a.0.0 ∷ others.0, others.1)) x a.2 in
    let first = is.takes left bytes a.0 fits a.1 in
    let second = items_take read cost spell Fits is n (left - cost a.0.0) a.0.1 b.0 first.0.rest_fits b.1 in
    let both = Takes-then bytes (spell a.0.0) a.0.1 (flat_map spell b.0.0) b.0.1 first.0 second.0 in
    let made : List X × List ℕ = (a.0.0 ∷ b.0.0, b.0.1) in
    subst (λ (y : List X × List ℕ). Takes bytes (flat_map spell y.0) y.1 × (length y.0 ≡ suc n) × AllByRecursion Fits y.0 × (total cost y.0 ≤ left)) (some_is made x b.2)
    (rw flat_map-cons both, ap suc second.1, (first.1, second.2), omega (arith, first.2, second.3))

pub items_again : {X : Type 0} (read : ℕ → List ℕ → Option (X × List ℕ)) (cost : X → ℕ) (spell : X → List ℕ) (Fits : X → Type 0) → IsItemReader read cost spell Fits
    → (left : ℕ) (xs : List X) (rest : List ℕ) → AllByRecursion Fits xs → total cost xs ≤ left → items_at read cost (length xs) left (flat_map spell xs ++ rest) ≡ Some (xs, rest)
unfolding items_at
items_again read cost spell Fits is left [] rest fits le = refl
items_again read cost spell Fits is left (x ∷ xs) rest fits le =
    let regrouped : flat_map spell (x ∷ xs) ++ rest ≡ spell x ++ (flat_map spell xs ++ rest) = ap (λ (l : List ℕ). l ++ rest) (flat_map-cons spell x xs) ∙ append_assoc (spell x) (flat_map spell xs) rest in
    ap (items_at read cost (suc (length xs)) left) regrouped
    ∙ rw (is.again left x (flat_map spell xs ++ rest) fits.0 (omega (arith, le)), items_again read cost spell Fits is (left - cost x) xs rest fits.1 (omega (arith, le))) refl
