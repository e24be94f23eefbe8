-- That a queue in front of any sender is what any sender is: the lemmas of the law that its `impl` states.
use Rattle.std.specs.Prelude.{◌≡◌, ℕ, ◌+◌, ◌-◌, ◌^◌, ◌<◌, ◌≤◌, List, ◌++◌, map, length, slice_index, refl}
use Rattle.std.proofs.Common.{sym, subst, ◌∙◌, ⊎_elim, mod-lt, arith, pow_pos}
use Rattle.std.proofs.lemmas.List.{length-append, length-map, get_or_append_left, get_or-append_right, get_or-map}
use Rattle.std.proofs.lemmas.Bool.{cases_lt}
use Rattle.line.specs.declared.format.Format.{Format}
use Rattle.line.specs.Frames.{width}
use Rattle.ends.specs.Sender.{SenderState, SoundSender}
use Rattle.queue.specs.Queues.{cut, queued_to}

pub cut_narrow : (f : Format) (c : ℕ) → cut f c < 2 ^ width f
cut_narrow f c = mod-lt c (pow_pos (width f))

pub sound_queued : (s : SenderState) (held : List ℕ) → length held ≤ 16 → SoundSender s → SoundSender (queued_to s held)
sound_queued s held few ok = record {
  thirteen = ok.thirteen;
  lasting = ok.lasting;
  short = ok.short;
  room = omega arith;
  few = omega (arith, few, ok.few, all, length-map held (cut s.format));
  narrow = λ i h. ⊎_elim
      (λ (l : i < length s.waiting).
      subst (λ (c : ℕ). c < 2 ^ width s.format) (sym (get_or_append_left s.waiting tail 0 i l)) (ok.narrow i l))
      (λ (l : length s.waiting ≤ i).
      subst (λ (c : ℕ). c < 2 ^ width s.format)
      (sym (get_or-append_right s.waiting tail (length s.waiting) i 0 refl l
      ∙ get_or-map (cut s.format) held (i - length s.waiting) 0 0 (omega (arith, h, l, all, length-map held (cut s.format)))))
      (cut_narrow s.format (slice_index held (i - length s.waiting))))
      (cases_lt i (length s.waiting));
}
  where
    tail : List ℕ
    tail = map (cut s.format) held

    all : length (s.waiting ++ map (cut s.format) held) ≡ length s.waiting + length (map (cut s.format) held)
    all = length-append s.waiting (map (cut s.format) held)
