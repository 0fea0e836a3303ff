use Rattle.std.proofs.Common.{Err}
use Rattle.request_head.specs.declared.fault.HttpFault.TheVariants.{BadHead}
use Rattle.smart_http.proofs.PartLemmas.{part_alone}
use Rattle.smart_http.proofs.EndLemmas.{all_taken, head_broken, head_cut, head_failed, head_lacks, head_read, none_more}
use Rattle.smart_http.proofs.serving.serve.Goals as goal

pub returns-in-Err-TooLong-clause-runs : goal.returns-in-Err-TooLong-clause-runs
returns-in-Err-TooLong-clause-runs g c =
    let r = rw c.in-Err-TooLong.field-0-is at c.in-Err-TooLong.ensures.reads in
    head_broken _ _ _ c.read_head.ensures.writing c.read_head.ensures.later r.taken r.consumed r.counted _ _ (Err BadHead) c.refuse_head.result r.decided (part_alone _ _ _ _ _ (c.refuse_head.ensures.runs _))

pub returns-in-Err-Truncated-clause-runs : goal.returns-in-Err-Truncated-clause-runs
returns-in-Err-Truncated-clause-runs g c =
    let r = rw c.in-Err-Truncated.field-0-is at c.in-Err-Truncated.ensures.reads in
    head_cut _ _ _ c.read_head.ensures.writing c.read_head.ensures.later r.taken r.consumed r.counted r.decided.0 r.decided.1

pub returns-in-Err-ReadFault-clause-runs : goal.returns-in-Err-ReadFault-clause-runs
returns-in-Err-ReadFault-clause-runs g c =
    let r = rw c.in-Err-ReadFault.field-0-is at c.in-Err-ReadFault.ensures.reads in
    head_failed _ _ _ c.read_head.ensures.writing c.read_head.ensures.later r.taken r.consumed r.counted r.decided.0 (r.decided.1, r.decided.2)

pub returns-in-Err-NoMemory-clause-runs : goal.returns-in-Err-NoMemory-clause-runs
returns-in-Err-NoMemory-clause-runs g c =
    let r = rw c.in-Err-NoMemory.field-0-is at c.in-Err-NoMemory.ensures.reads in
    head_lacks _ _ _ c.read_head.ensures.writing c.read_head.ensures.later r.taken r.consumed r.counted (none_more r.taken r.decided)

pub returns-in-Ok-read_request-clause-runs : goal.returns-in-Ok-read_request-clause-runs
returns-in-Ok-read_request-clause-runs g c =
    let r = c.in-Ok.ensures.reads in
    head_read _ _ _ c.read_head.ensures.writing c.read_head.ensures.later r.taken r.consumed r.counted _ _ c.in-Ok-read_request.answer c.serve_answer.result _ r.decided
    (rw c.deref.ensures.value at c.in-Ok-read_request.ensures) c.serve_answer.ensures.runs

pub returns-clause-runs : goal.returns-clause-runs
returns-clause-runs g c =
    let r = c.in-Ok.ensures.reads in
    head_lacks _ _ _ c.read_head.ensures.writing c.read_head.ensures.later r.taken r.consumed r.counted (all_taken r.taken _ r.decided)
