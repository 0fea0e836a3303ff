-- What the sessions of the generated installation send.
use Rattle.std.specs.Prelude.{ℕ, ◌+◌, ◌*◌, ◌%◌, ◌==◌, Bool, true, false, List, [], ◌∷◌, codes}
use Rattle.git_object.specs.Object.{object_name}
use Rattle.git_object.specs.declared.kind.Kind.TheVariants.{Blob, Commit, Tree}
use Rattle.git_object.specs.declared.object_id.ObjectId.{ObjectId}
use Rattle.ref_store.specs.Refs.{zero_id}
use Rattle.installation.specs.Draws.{drawn, drawn_behind}
use Rattle.installation.specs.Conf.{conf_text, repo_name, user_name}
use Rattle.installation.specs.Objects.{conf_commit, conf_folder, conf_root, empty_tree, numbered_commit}
use Rattle.installation.specs.Sending.{pushing}
use Rattle.installation.specs.declared.sessions.Visit.{Visit}

-- the ref of a visit
abbrev pub ref_of : Bool → List ℕ
ref_of true = codes "refs/heads/master"
ref_of false = codes "refs/heads/topic"

-- three draws behind this number make a visit, where there are so many repositories
unfoldable pub visit_behind : ℕ → ℕ → Visit
visit_behind count x =
    let user = drawn_behind x in
    let repo = drawn_behind user in
    let ref = drawn_behind repo in
    record { user = user % 10; repo = repo % count; on_master = ref % 2 == 0 }

-- the visits are drawn behind the conf's repositories
abbrev pub visit_at : ℕ → ℕ → ℕ → Visit
visit_at count start number = visit_behind count (drawn start (2 * count + 3 * number))

-- the admin pushes a commit with these bodies of what it leads to
abbrev pub sending_conf : List ℕ → List ℕ → List ℕ → List ℕ → List ℕ
sending_conf commit root folder text =
    pushing (codes "admin") (codes "gitolite-admin")
    (record { old = zero_id; new = object_name (record { kind = Commit; body = commit }); name = codes "refs/heads/master" })
    (record { kind = Commit; body = commit } ∷ record { kind = Tree; body = root } ∷ record { kind = Tree; body = folder } ∷ record { kind = Blob; body = text } ∷ [])

-- the admin pushes a conf
unfoldable pub pushing_conf : List ℕ → List ℕ
pushing_conf text = sending_conf (conf_commit text).body (conf_root text).body (conf_folder text).body text

-- The first session's input.
unfoldable pub first_input : ℕ → ℕ → List ℕ
first_input count start = pushing_conf (conf_text count start)

-- A visit's session, by its number and the value that its ref has.
unfoldable pub visit_input : ℕ → Visit → ObjectId → List ℕ
visit_input number visit old =
    pushing (user_name visit.user) (repo_name visit.repo)
    (record { old = old; new = object_name (numbered_commit number); name = ref_of visit.on_master })
    (numbered_commit number ∷ empty_tree ∷ [])
