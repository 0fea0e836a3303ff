-- Entries, one after another.
use Rattle.std.proofs.Common.{◌≡◌, ℕ, suc, ◌+◌, List, [], ◌∷◌, ◌++◌, length, Some, None, Ok, Err, ◌⊎◌, arith, refl, subst, inl, inr}
use Rattle.sha1.specs.declared.Sha1.{Sha1}
use Rattle.git_object.specs.Content.{Content}
use Rattle.git_object.specs.Object.{fault_of, total_bytes}
use Rattle.git_object.specs.declared.fault.ObjFault.{ObjFault}
use Rattle.pktline_core.specs.LinkState.{LinkState}
use Rattle.pktline_core.specs.Links.{IsLater}
use Rattle.raw_pack.specs.Formats.{Format, gives, fails, bytes}
use Rattle.raw_pack.specs.Packs.{entry_head, formed, pack_entry, pack_entries}
use Rattle.raw_pack.specs.Reading.{Leaves, Reads, fault_at}
use Rattle.raw_pack.specs.declared.head.Head.{Head}
use Rattle.raw_pack.specs.declared.fault.PackFault.{PackFault}
use Rattle.raw_pack.specs.declared.fault.PackFault.TheVariants.{BadObject, Truncated, NoMemory}
use Rattle.raw_pack.proofs.ReadLemmas.{leaves_then, leaves_end, reads_first, reads_then, reads_gives, reads_fails, reads_lacks, reads_value}

-- one object more, and its body
pub total_bytes-more : (objects : List Content) (object : Content) → total_bytes (objects ++ object ∷ []) ≡ total_bytes objects + length object.body
total_bytes-more [] object = omega arith
total_bytes-more (first ∷ objects) object = omega (arith, total_bytes-more objects object)

pub entry_cut_in_head : (entry sum : ℕ) (old new : LinkState) (before after : Sha1) (fault : PackFault) → Reads (entry_head entry sum) old new before after (Err fault) → Reads (pack_entry entry sum) old new before after (Err fault)
unfolding pack_entry
entry_cut_in_head entry sum old new before after fault r = reads_first (entry_head entry sum) _ old new before after after fault r

-- memory lacked for the body
pub entry_lacked : (entry sum : ℕ) (old new : LinkState) (before between after : Sha1) (head : Head) → Reads (entry_head entry sum) old new before between (Ok head) → Reads (pack_entry entry sum) old new before after (Err NoMemory)
unfolding pack_entry
entry_lacked entry sum old new before between after head r = reads_lacks (entry_head entry sum) _ old new before between after head r

module _ (entry sum : ℕ) (old mid new : LinkState) (before between after : Sha1) where
  module _ (head : Head) (p : Reads (entry_head entry sum) old mid before between (Ok head)) (later : IsLater old mid) where
    pub entry_cut : (fault : PackFault) → Reads (bytes head.size (Truncated entry)) mid new between after (Err fault) → Reads (pack_entry entry sum) old new before after (Err fault)
    unfolding pack_entry
    entry_cut fault q = reads_then (entry_head entry sum) _ old mid new before between after head (Err fault) p later (reads_first _ _ mid new between after after fault q)

    -- what was read, and the body that was made of it, which are the same
    module _ (read body : List ℕ) (same : body ≡ read) (q : Reads (bytes head.size (Truncated entry)) mid new between after (Ok read)) where
      body_read : Reads (bytes head.size (Truncated entry)) mid new between after (Ok body)
      body_read = rw same q

      pub entry_whole : (content : Content) → (content.kind ≡ head.kind) × (content.body ≡ body) → fault_of head.kind body ≡ None → Reads (pack_entry entry sum) old new before after (Ok content)
      unfolding pack_entry
      entry_whole content (kind, is) form =
          reads_then (entry_head entry sum) _ old mid new before between after head (Ok content) p later (reads_gives _ _ mid new between after body content (rw (form, ← kind, ← is)) body_read)

      refused : formed entry (record { kind = head.kind; body = body }) (fault_of head.kind body) ≡ fails (BadObject entry) → Reads (pack_entry entry sum) old new before after (Err (BadObject entry))
      unfolding pack_entry
      refused is = reads_then (entry_head entry sum) _ old mid new before between after head (Err (BadObject entry)) p later (reads_fails _ _ mid new between after body (BadObject entry) refl is body_read)

      pub entry_refused : (fault : ObjFault) → (fault ≡ ObjFault.NoMemory) ⊎ (fault_of head.kind body ≡ Some fault) → Reads (pack_entry entry sum) old new before after (Err (fault_at entry fault))
      unfolding pack_entry
      entry_refused ObjFault.NoMemory why = reads_then (entry_head entry sum) _ old mid new before between after head (Err NoMemory) p later (reads_lacks _ _ mid new between after after body body_read)
      entry_refused (ObjFault.BadCommit i) (inl lacks) = absurd (cc)
      entry_refused (ObjFault.BadCommit i) (inr is) = refused (rw is)
      entry_refused (ObjFault.BadTree i) (inl lacks) = absurd (cc)
      entry_refused (ObjFault.BadTree i) (inr is) = refused (rw is)
      entry_refused (ObjFault.BadTag i) (inl lacks) = absurd (cc)
      entry_refused (ObjFault.BadTag i) (inr is) = refused (rw is)

module _ (whole : Format (List Content) PackFault) (entry sum : ℕ) (read : List Content) (old mid : LinkState) (before between : Sha1) (n : ℕ) (p : Leaves whole (pack_entries n entry sum read) old mid before between) where
  pub entries_end : n ≡ 0 → IsLater old mid → Reads whole old mid before between (Ok read)
  unfolding pack_entries
  entries_end none later =
      leaves_end whole (gives read) old mid mid before between between (Ok read)
      (subst (λ (k : ℕ). Leaves whole (pack_entries k entry sum read) old mid before between) none p) later (reads_value read mid between)

  module _ (left : ℕ) (is : n ≡ suc left) (new : LinkState) (after : Sha1) where
    so_far : Leaves whole (pack_entries (suc left) entry sum read) old mid before between
    so_far = subst (λ (k : ℕ). Leaves whole (pack_entries k entry sum read) old mid before between) is p

    pub entries_cut : (fault : PackFault) → IsLater old mid → Reads (pack_entry entry sum) mid new between after (Err fault) → Reads whole old new before after (Err fault)
    unfolding pack_entries
    entries_cut fault later q = leaves_end whole _ old mid new before between after (Err fault) so_far later (reads_first _ _ mid new between after after fault q)

    pub entries_more : (content : Content) → Reads (pack_entry entry sum) mid new between after (Ok content)
        → Leaves whole (pack_entries left (entry + 1) (sum + length content.body) (read ++ content ∷ [])) old new before after
    unfolding pack_entries
    entries_more content q = leaves_then whole (pack_entry entry sum) _ old mid new before between after content so_far q
