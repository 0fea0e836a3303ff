-- The push of a conf, body by body.
use Rattle.std.proofs.Common.{◌≡◌, ℕ, List, [], ◌++◌, refl}
use Rattle.std.specs.Prelude.{codes}
use Rattle.git_object.specs.Object.{object_name}
use Rattle.git_object.specs.Spelling.{spelled_line, spelled_entry}
use Rattle.git_object.specs.declared.kind.Kind.TheVariants.{Tree, Blob}
use Rattle.git_object.specs.declared.object_id.ObjectId.{ObjectId}
use Rattle.installation.specs.Sessions.{pushing_conf, sending_conf}

-- the bodies as they were named (`f`, `r`), as they are sent (`folder'`, `root'`, `commit'`), and as they
-- were made
pub conf_is_sent : (text folder root commit f r folder' root' commit' : List ℕ) (blob_id folder_id root_id : ObjectId)
    → blob_id ≡ object_name (record { kind = Blob; body = text }) → folder ≡ spelled_entry (record { mode = codes "100644"; name = codes "gitolite.conf"; id = blob_id }) → f ≡ folder
    → folder_id ≡ object_name (record { kind = Tree; body = f }) → root ≡ spelled_entry (record { mode = codes "40000"; name = codes "conf"; id = folder_id }) → r ≡ root
    → root_id ≡ object_name (record { kind = Tree; body = r }) → commit ≡ spelled_line (codes "tree ") root_id ++ [] → folder' ≡ folder → root' ≡ root → commit' ≡ commit
    → sending_conf commit' root' folder' text ≡ pushing_conf text
unfolding pushing_conf
conf_is_sent text folder root commit f r folder' root' commit' blob_id folder_id root_id e1 e2 f_is e3 e4 r_is e5 e6 folder_is root_is commit_is =
    rw (commit_is, root_is, folder_is, e6, e5, r_is, e4, e3, f_is, e2, e1) refl
