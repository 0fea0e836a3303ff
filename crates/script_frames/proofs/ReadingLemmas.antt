-- Steps of reading a frame, one after the other.
use Rattle.std.proofs.Common.{◌≡◌, ◌⊎◌, ℕ, ◌+◌, ◌-◌, ◌<◌, ◌≤◌, List, [], ◌∷◌, ◌++◌, length, Option, Some, None, refl, sym, ◌∙◌, ap, subst, inl, inr, arith, append_assoc, length-append}
use Rattle.std.proofs.lemmas.List.{append-nil}
use Rattle.std.specs.Io.KnownBytes.{IsAtEnd}
use Rattle.pktline_core.specs.LinkState.{LinkState}
use Rattle.pktline_core.specs.Links.{IsLater}
use Rattle.pktline_core.proofs.LinkLemmas.{consumes_more, risen_later}
use Rattle.script_frames.specs.Frames.{head_text, frame_text, BeginsNoFrame, HasNoFeed, IsWord}
use Rattle.script_frames.specs.ReadingFrames.{StopsAtByte, Takes, FailsAfter, IsRest, TakesNoLine, StopsInLine, IsSizeIn, HasNoSize, TakesBody, StopsInBody, TakesFrame, TakesNoFrame, IsInBody, GoesNoFurther, StopsInFrame}
use Rattle.script_frames.specs.declared.frames.FrameFault.{FrameFault}
use Rattle.script_frames.specs.declared.frames.FrameFault.TheVariants.{Bad, ReadFault, NoMemory}
use Rattle.script_frames.proofs.FrameLemmas.{begins_line, begins_long, begins_cut, begins_short, begins_open}

pub takes_more : (a b c : LinkState) (xs ys : List ℕ) → Takes a b xs → Takes b c ys → Takes a c (xs ++ ys)
takes_more a b c xs ys p q = record {
  consumed = consumes_more a.left b.left c.left xs ys p.consumed q.consumed;
  counted = omega (arith, p.counted, q.counted, length-append xs ys);
}

fails_more : (a b c : LinkState) (xs ys : List ℕ) → Takes a b xs → IsLater a b → FailsAfter b c ys → FailsAfter a c (xs ++ ys)
fails_more a b c xs ys p later f = record {
  takes = takes_more a b c xs ys p f.takes;
  risen = risen_later a.read_faults b.read_faults c.read_faults later.read_faults f.risen;
  may_fail = rw later.may_fail at f.may_fail;
}

-- where nothing more was taken
fails_here : (a b c : LinkState) (xs : List ℕ) → Takes a b xs → IsLater a b → FailsAfter b c [] → FailsAfter a c xs
fails_here a b c xs p later f = subst (FailsAfter a c) (append-nil xs) (fails_more a b c xs [] p later f)

pub no_rest : (left : Option (List ℕ)) (rest : List ℕ) → IsAtEnd left → IsRest left rest → rest ≡ []
no_rest None rest ended is = is
no_rest (Some xs) rest ended is = is ∙ ended

module _ (word : List ℕ) (is_word : IsWord word) where
  -- the bytes alone, where nothing follows
  at_end : (left : Option (List ℕ)) (part rest : List ℕ) → IsAtEnd left → IsRest left rest → BeginsNoFrame word part → BeginsNoFrame word (part ++ rest)
  at_end left part rest ended is bad = subst (BeginsNoFrame word) (sym (ap (λ (l : List ℕ). part ++ l) (no_rest left rest ended is) ∙ append-nil part)) bad

  some_part : (part : List ℕ) (left : Option (List ℕ)) → (length part ≡ 18) ⊎ ((0 < length part) × (length part ≤ 17) × IsAtEnd left) → 0 < length part
  some_part part left (inl long) = omega (arith, long)
  some_part part left (inr cut) = cut.0

  bad_part : (part rest : List ℕ) (left : Option (List ℕ)) → HasNoFeed part → (length part ≡ 18) ⊎ ((0 < length part) × (length part ≤ 17) × IsAtEnd left) → IsRest left rest → BeginsNoFrame word (part ++ rest)
  bad_part part rest left none (inl long) is = begins_long word is_word part rest none (omega (arith, long))
  bad_part part rest left none (inr cut) is = at_end left part rest cut.2 is (begins_cut word is_word part none)

  split_last : (n : ℕ) (part : List ℕ) → HasNoFeed part → length part ≡ n + 1 → (front : List ℕ) × (last : ℕ) × (part ≡ front ++ last ∷ []) × HasNoFeed front × (length front ≡ n)
  split_last n [] none is = absurd (omega (arith, is))
  split_last n (b ∷ []) none is = ([], b, refl, tt, omega (arith, is))
  split_last n (b ∷ c ∷ part) none is =
      let ih = split_last (n - 1) (c ∷ part) none.1 (omega (arith, is)) in
      (b ∷ ih.0, ih.1, ap (λ (l : List ℕ). b ∷ l) ih.2, (none.0, ih.3), omega (arith, is, ih.4))

  no_further : (part : List ℕ) (left : Option (List ℕ)) → HasNoFeed part → (length part ≡ 18) ⊎ ((0 < length part) × (length part ≤ 17) × IsAtEnd left) → GoesNoFurther word part
  no_further part left none (inl long) = let split = split_last 17 part none long in inr (split.0, split.1, split.2, inl (split.3, omega (arith, split.4)))
  no_further part left none (inr cut) = inl (inl (none, cut.1))

  no_line : (a b : LinkState) → TakesNoLine a b → TakesNoFrame word a b
  no_line a b t = record { part = t.part; takes = t.takes; some = some_part t.part b.left t.ended; bad = λ rest is. bad_part t.part rest b.left t.no_feed t.ended is; no_further = no_further t.part b.left t.no_feed t.ended }

  pub line_stops : (a b : LinkState) (fault : FrameFault) → StopsInLine a b fault → StopsInFrame word a b fault
  line_stops a b Bad t = no_line a b t
  line_stops a b ReadFault t = record { part = t.part; none = begins_cut word is_word t.part t.no_feed; wants = inl (t.no_feed, t.short); fails = t.fails }
  line_stops a b NoMemory t = absurd t

  module _ (a b : LinkState) (line : List ℕ) (first : Takes a b (line ++ 10 ∷ [])) where
    some_line : (more : List ℕ) → 0 < length ((line ++ 10 ∷ []) ++ more)
    some_line more = omega (arith, length-append (line ++ 10 ∷ []) more, length-append line (10 ∷ []))

    pub no_size : HasNoFeed line → length line ≤ 17 → HasNoSize word line → TakesNoFrame word a b
    no_size none few other = record {
      part = line ++ 10 ∷ [];
      takes = first;
      some = omega (arith, length-append line (10 ∷ []));
      bad = λ rest is. subst (BeginsNoFrame word) (sym (append_assoc line (10 ∷ []) rest)) (begins_line word is_word line rest none other);
      no_further = inr (line, 10, refl, inl (none, few));
    }

    module _ (n : ℕ) (size : IsSizeIn word line n) where
      short : (part : List ℕ) → length part ≤ n → BeginsNoFrame word ((line ++ 10 ∷ []) ++ part)
      short part less = subst (λ (l : List ℕ). BeginsNoFrame word ((l ++ 10 ∷ []) ++ part)) (sym size.head) (begins_short word is_word n size.small part less)

      inside : (part : List ℕ) → length part ≤ n → IsInBody word ((line ++ 10 ∷ []) ++ part)
      inside part less = (n, part, size.small, append_assoc line (10 ∷ []) part ∙ ap (λ (l : List ℕ). l ++ 10 ∷ part) size.head, less)

      ended : (c : LinkState) (part : List ℕ) → Takes b c part → length part ≤ n → IsAtEnd c.left → TakesNoFrame word a c
      ended c part more less end = record {
        part = (line ++ 10 ∷ []) ++ part;
        takes = takes_more a b c (line ++ 10 ∷ []) part first more;
        some = some_line part;
        bad = λ rest is. at_end c.left ((line ++ 10 ∷ []) ++ part) rest end is (short part less);
        no_further = inl (inr (inside part less));
      }

      pub body_stops : (c : LinkState) (fault : FrameFault) → IsLater a b → StopsInBody b c n fault → StopsInFrame word a c fault
      body_stops c Bad later t = ended c t.part t.takes (omega (arith, t.short)) t.ended
      body_stops c ReadFault later t = record { part = (line ++ 10 ∷ []) ++ t.part; none = short t.part (omega (arith, t.short)); wants = inr (inside t.part (omega (arith, t.short))); fails = fails_more a b c (line ++ 10 ∷ []) t.part first later t.fails }
      body_stops c NoMemory later t = record { part = (line ++ 10 ∷ []) ++ t.part; none = short t.part t.within; inside = inside t.part t.within; takes = takes_more a b c (line ++ 10 ∷ []) t.part first t.takes }

      module _ (c d : LinkState) (body : List ℕ) (second : TakesBody b c n body) where
        both : Takes a c ((line ++ 10 ∷ []) ++ body)
        both = takes_more a b c (line ++ 10 ∷ []) body first second.takes

        pub closed : Takes c d (10 ∷ []) → TakesFrame word a d (length line + 1 + n + 1) body
        unfolding frame_text
        closed last =
            let whole : ((line ++ 10 ∷ []) ++ body) ++ 10 ∷ [] ≡ frame_text word body =
            append_assoc (line ++ 10 ∷ []) body (10 ∷ []) ∙ append_assoc line (10 ∷ []) (body ++ 10 ∷ []) ∙ ap (λ (l : List ℕ). l ++ 10 ∷ (body ++ 10 ∷ [])) (size.head ∙ ap (head_text word) (sym second.sized)) in
            record {
              takes = subst (Takes a d) whole (takes_more a c d ((line ++ 10 ∷ []) ++ body) (10 ∷ []) both last);
              counted = omega (arith, second.sized, ap length whole, length-append ((line ++ 10 ∷ []) ++ body) (10 ∷ []), length-append (line ++ 10 ∷ []) body, length-append line (10 ∷ []));
              small = omega (arith, second.sized, size.small);
            }

        pub open_ended : (byte : ℕ) → (byte ≡ 10 → ⊥) → Takes c d (byte ∷ []) → TakesNoFrame word a d
        open_ended byte other last = record {
          part = ((line ++ 10 ∷ []) ++ body) ++ byte ∷ [];
          takes = takes_more a c d ((line ++ 10 ∷ []) ++ body) (byte ∷ []) both last;
          some = omega (arith, length-append ((line ++ 10 ∷ []) ++ body) (byte ∷ []));
          bad = λ rest is. subst (BeginsNoFrame word)
              (sym (append_assoc ((line ++ 10 ∷ []) ++ body) (byte ∷ []) rest ∙ append_assoc (line ++ 10 ∷ []) body (byte ∷ rest)))
              (subst (λ (l : List ℕ). BeginsNoFrame word ((l ++ 10 ∷ []) ++ (body ++ byte ∷ rest))) (sym size.head) (begins_open word is_word n size.small body rest byte second.sized other));
          no_further = inr ((line ++ 10 ∷ []) ++ body, byte, refl, inr (inside body (omega (arith, second.sized))));
        }

        pub cut_off : Takes c d [] → IsAtEnd d.left → TakesNoFrame word a d
        cut_off none end = ended d body (subst (Takes b d) (append-nil body) (takes_more b c d body [] second.takes none)) (omega (arith, second.sized)) end

        pub byte_stops : (fault : FrameFault) → IsLater a c → StopsAtByte c d fault → StopsInFrame word a d fault
        byte_stops Bad later stop = absurd stop
        byte_stops ReadFault later stop = record { part = (line ++ 10 ∷ []) ++ body; none = short body (omega (arith, second.sized)); wants = inr (inside body (omega (arith, second.sized))); fails = fails_here a c d ((line ++ 10 ∷ []) ++ body) both later stop }
        byte_stops NoMemory later stop = absurd stop
