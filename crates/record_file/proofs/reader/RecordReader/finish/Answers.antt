use Rattle.std.proofs.Common.{◌≡◌, ◌⊎◌, ◌+◌, ℕ, Ok, subst, ap, arith}
use Rattle.record_file.specs.Crashes.{FileState}
use Rattle.record_file.specs.Disks.{AsksCut, Cuts}
use Rattle.record_file.specs.Reading.{ReaderState}
use Rattle.record_file.proofs.OpenLemmas.{at_first, failed_cut, failed_sync, run_sync, durable, durable_now}
use Rattle.record_file.proofs.reader.RecordReader.finish.Goals as goal

offset_of : (a b : ReaderState) → a ≡ b → a.offset ≡ b.offset
offset_of a b same = ap (λ (r : ReaderState). r.offset) same

size_of : (a b : ReaderState) → a ≡ b → a.size ≡ b.size
size_of a b same = ap (λ (r : ReaderState). r.size) same

cut_at : (n m : ℕ) (a b : FileState) → n ≡ m → Cuts (n + 1) (Ok tt) a b → Cuts (m + 1) (Ok tt) a b
cut_at n m a b same k = subst (λ (e : ℕ). Cuts (e + 1) (Ok tt) a b) same k

failed_at : (n m : ℕ) (a b : FileState) → n ≡ m → (b ≡ a) ⊎ AsksCut (n + 1) a b → (b ≡ a) ⊎ AsksCut (m + 1) a b
failed_at n m a b same k = subst (λ (e : ℕ). (b ≡ a) ⊎ AsksCut (e + 1) a b) same k

pub returns-then-self-clause-durable : goal.returns-then-self-clause-durable
returns-then-self-clause-durable g c t head bodies r shut still =
    durable_now head bodies c.args.self.offset _ r shut still
    (omega (arith, g.met.D.Disk.size_told c.args.disk.now t, c.requires.same, c.if-self.true, offset_of _ c.args.self c.self.view_is, size_of _ c.args.self c.self.view_is))

pub returns-then-self-clause-any_moment : goal.returns-then-self-clause-any_moment
returns-then-self-clause-any_moment g c t head bodies r shut still = at_first head bodies c.args.self.offset _ r shut still

pub returns-in_err-cut-clause-any_moment : goal.returns-in_err-cut-clause-any_moment
returns-in_err-cut-clause-any_moment g c t head bodies r shut still =
    failed_cut head bodies c.args.self.offset _ r shut still _ (failed_at c.self.inside.offset c.args.self.offset _ _ (offset_of _ c.args.self c.self.view_is) (c.in_err-cut.ensures.file t))

pub returns-in_err-sync-clause-any_moment : goal.returns-in_err-sync-clause-any_moment
returns-in_err-sync-clause-any_moment g c t head bodies r shut still =
    failed_sync head bodies c.args.self.offset _ r shut still _ _ (cut_at c.self.inside.offset c.args.self.offset _ _ (offset_of _ c.args.self c.self.view_is) (c.in_ok-cut.ensures.file t)) (c.in_err-sync.ensures.file t)

pub returns-clause-durable : goal.returns-clause-durable
returns-clause-durable g c t head bodies r shut still =
    durable head bodies c.args.self.offset _ r shut still _ _ (cut_at c.self.inside.offset c.args.self.offset _ _ (offset_of _ c.args.self c.self.view_is) (c.in_ok-cut.ensures.file t)) (c.in_ok-sync.ensures.file t)

pub returns-clause-any_moment : goal.returns-clause-any_moment
returns-clause-any_moment g c t head bodies r shut still =
    run_sync head bodies c.args.self.offset _ r shut still _ _ (cut_at c.self.inside.offset c.args.self.offset _ _ (offset_of _ c.args.self c.self.view_is) (c.in_ok-cut.ensures.file t)) (c.in_ok-sync.ensures.file t)
