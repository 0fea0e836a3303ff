-- What was read of a body.
use Rattle.std.proofs.Common.{◌≡◌, ℕ, List, Some, None, Result, Ok, Err, sym, ap, ◌∙◌, subst}
use Rattle.std.specs.Prelude.{IfOk, IfErr}
use Rattle.hub_history.specs.Requests.{Request}
use Rattle.event_record.specs.declared.body_fault.BodyFault.{BodyFault}
use Rattle.event_record.specs.declared.body_fault.BodyFault.TheVariants as fault
use Rattle.event_record.specs.declared.request.CallerRequest.{CallerRequest}
use Rattle.event_record.specs.Asked.{asked, asked_by}
use Rattle.event_record.specs.Bodies.{IsStorable, body_of}
use Rattle.event_record.specs.Reading.{Fails, Gives}
use Rattle.event_record.specs.BodyReading.{body_at}
use Rattle.event_record.proofs.FieldLaws.{IsBytes}
use Rattle.event_record.proofs.BodyLaws.{body_takes, body_again}

pub is_found : (bytes : List ℕ) (result : Result CallerRequest BodyFault) → IsBytes bytes → Gives asked_by result (body_at bytes) → IfOk result (λ r. IsStorable r.caller (asked r.request) × (bytes ≡ body_of r.caller (asked r.request)))
is_found bytes (Ok r) fits gives = body_takes bytes (asked_by r) fits gives
is_found bytes (Err e) fits gives = tt

no_reading : (bytes : List ℕ) (e : BodyFault) (caller : ℕ) (request : Request) → Fails e (body_at bytes) → e ≡ fault.BadBody → IsStorable caller request → bytes ≡ body_of caller request → ⊥
no_reading bytes e caller request gives bad is same =
    let none : body_at bytes ≡ None = subst (λ (f : BodyFault). Fails f (body_at bytes)) bad gives in
    let some : body_at bytes ≡ Some (caller, request) = ap body_at same ∙ body_again caller request is in
    let clash : None ≡ Some (caller, request) = sym none ∙ some in
    cc

pub is_bad : (bytes : List ℕ) (result : Result CallerRequest BodyFault) → Gives asked_by result (body_at bytes)
    → IfErr result (λ e. e ≡ fault.BadBody → (caller : ℕ) (request : Request) → IsStorable caller request → bytes ≡ body_of caller request → ⊥)
is_bad bytes (Ok r) gives = tt
is_bad bytes (Err e) gives = λ bad caller request is same. no_reading bytes e caller request gives bad is same
