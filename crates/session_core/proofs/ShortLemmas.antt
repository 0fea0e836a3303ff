-- The role of a change that a first line asks for is short enough.
use Rattle.std.proofs.Common.{◌≡◌, ℕ, ◌≤◌, Bool, true, false, List, [], length, Option, Some, None, IfSome, refl, subst, arith}
use Rattle.std.specs.Prelude.{◌&&◌, codes, nat_le, not, if◌then◌else◌}
use Rattle.std.specs.List.{list_all}
use Rattle.std.specs.Option.{option_map}
use Rattle.std.specs.Str.{bytes_eq}
use Rattle.std.proofs.lemmas.Bool.{and_parts}
use Rattle.std.proofs.lemmas.Bool.Decides.{nat_tests}
use Rattle.git_object.specs.Reader.{◌>>=◌, literal, up_to}
use Rattle.conf_lex.specs.Names.{is_user_name}
use Rattle.hub_history.specs.History.{HasShortRole}
use Rattle.hub_history.specs.declared.entry.PermChange.{PermChange}
use Rattle.session_core.specs.declared.first_packet.Asked.{Asked}
use Rattle.session_core.specs.declared.first_packet.Service.{Service}
use Rattle.session_core.specs.declared.first_packet.Service.TheVariants.{Look}
use Rattle.session_core.specs.declared.first_packet.FirstLine.{FirstLine}
use Rattle.session_core.specs.declared.first_packet.FirstLine.TheVariants.{Asks, BadCommand, BadUser}
use Rattle.session_core.specs.FirstPacket.{HasShortChange, after, asked_by, behind_user, changing, first_line, granting, is_role_byte, is_role_word, listing, looking, permitting, receiving, repo_named, revoking, role_and_user, role_change, service, uploading, user_word}

-- ---- options

bound : {A B : Type 0} (P : B → Type 0) (o : Option A) (f : A → Option B) → ((x : A) → IfSome (f x) P) → IfSome (o >>= f) P
bound P None f h = tt
bound P (Some x) f h = h x

bound_with : {A B : Type 0} (Q : A → Type 0) (P : B → Type 0) (o : Option A) (f : A → Option B) → IfSome o Q → ((x : A) → Q x → IfSome (f x) P) → IfSome (o >>= f) P
bound_with Q P None f has h = tt
bound_with Q P (Some x) f has h = h x has

tested : {B : Type 0} (P : B → Type 0) (b : Bool) (bytes : List ℕ) (f : List ℕ → Option B) → (b ≡ true → IfSome (f bytes) P) → IfSome ((if b then Some bytes else None) >>= f) P
tested P true bytes f h = h refl
tested P false bytes f h = tt

mapped : {A B : Type 0} (P : B → Type 0) (g : A → B) (o : Option A) → IfSome o (λ x. P (g x)) → IfSome (option_map g o) P
mapped P g None h = tt
mapped P g (Some x) h = h

chosen : {A : Type 0} (P : A → Type 0) (o : Option (List ℕ)) (read : List ℕ → Option A) (other : Option A) → ((rest : List ℕ) → IfSome (read rest) P) → IfSome other P → IfSome (after o read other) P
chosen P None read other h g = g
chosen P (Some rest) read other h g = h rest

-- ---- a role

within : (role : List ℕ) → is_role_word role ≡ true → length role ≤ 65516
within role is =
    let parts = and_parts (not (bytes_eq role []) && nat_le (length role) 65516) (list_all is_role_byte role) is in
    let short : nat_le (length role) 65516 ≡ true = (and_parts (not (bytes_eq role [])) (nat_le (length role) 65516) parts.0).1 in
    grind (arith, nat_tests, short)

role_short : (words : List ℕ) → IfSome (role_and_user words) (λ r. length r.0 ≤ 65516)
unfolding role_and_user
role_short words =
    bound _ (up_to 32 words) _ (λ parts. tested _ (is_role_word parts.0) parts.0 _ (λ is. tested _ (is_user_name parts.1) parts.1 _ (λ named. within parts.0 is)))

change_short : (words : List ℕ) → IfSome (role_change words) HasShortRole
unfolding role_change
change_short words =
    chosen HasShortRole (literal (codes "+ ") words) granting _ (λ rest. mapped HasShortRole _ (role_and_user rest) (role_short rest))
    (chosen HasShortRole (literal (codes "- ") words) revoking None (λ rest. mapped HasShortRole _ (role_and_user rest) (role_short rest)) tt)

-- ---- what is asked for

changing_short : (words : List ℕ) → IfSome (changing words) HasShortChange
unfolding changing
changing_short words = bound HasShortChange (up_to 32 words) _ (λ parts. bound HasShortChange (repo_named parts.0) _ (λ repo. bound_with HasShortRole HasShortChange (role_change parts.1) _ (change_short parts.1) (λ change short. short)))

each : {A : Type 0} (P : A → Type 0) (o : Option A) → ((x : A) → P x) → IfSome o P
each P None h = tt
each P (Some x) h = h x

looking_short : (words : List ℕ) → IfSome (looking words) HasShortChange
looking_short words = by_test (bytes_eq words (codes "info"))
  where
    by_test : (b : Bool) → IfSome (if b then Some Look else None) HasShortChange
    by_test true = tt
    by_test false = tt

-- a listing is of no role
none : 0 ≤ 65516
none = omega arith

service_short : (words : List ℕ) → IfSome (service words) HasShortChange
unfolding service
service_short words =
    chosen HasShortChange (literal (codes "git-receive-pack ") words) receiving _ (λ rest. mapped HasShortChange _ (repo_named rest) (each _ (repo_named rest) (λ repo. tt)))
    (chosen HasShortChange (literal (codes "git-upload-pack ") words) uploading _ (λ rest. mapped HasShortChange _ (repo_named rest) (each _ (repo_named rest) (λ repo. tt)))
    (chosen HasShortChange (literal (codes "perms ") words) permitting _
    (λ rest. chosen HasShortChange (literal (codes "-l ") rest) listing _ (λ word. mapped HasShortChange _ (repo_named word) (each _ (repo_named word) (λ repo. none))) (changing_short rest))
    (looking_short words)))

asked_short : (user : List ℕ) (o : Option Service) (asked : Asked) → IfSome o HasShortChange → asked_by user o ≡ Asks asked → HasShortChange asked.service
asked_short user None asked has is = absurd cc
asked_short user (Some s) asked has is = let same : s ≡ asked.service = cc in subst HasShortChange same has

pub line_short : (line : List ℕ) (asked : Asked) → first_line line ≡ Asks asked → HasShortChange asked.service
unfolding first_line
line_short line asked is = by_test (is_user_name (user_word line)) is
  where
    by_test : (b : Bool) → (if b then asked_by (user_word line) (behind_user line >>= service) else BadUser) ≡ Asks asked → HasShortChange asked.service
    by_test true said = asked_short (user_word line) (behind_user line >>= service) asked (bound HasShortChange (behind_user line) service service_short) said
    by_test false said = absurd cc
