-- A clock of the chip, from what it does to the ends.
use Rattle.std.proofs.Common.{◌≡◌, ℕ, ◌≤◌, ◌||◌, List, [], ◌∷◌, length, Some, None, Option, option_map, sym, refl, ap, ◌∙◌, subst, ap₂, arith}
use Rattle.std.specs.Option.{ForSome, option_to_list}
use Rattle.line.specs.declared.level.Level.{Level}
use Rattle.line.specs.Frames.{width}
use Rattle.ends.specs.Sender.{SenderState, empty, after_send, holding as sender_holding}
use Rattle.ends.specs.BareSender.{meant}
use Rattle.chip.specs.declared.mode.Mode.{Mode}
use Rattle.chip.specs.declared.transmit.Transmit.{Transmit}
use Rattle.chip.specs.declared.receive.Receive.{Receive}
use Rattle.chip.specs.declared.rate.Rate.{Rate}
use Rattle.chip.specs.Receiving.{all_taken}
use Rattle.chip.specs.declared.pair.Ends.{Ends}
use Rattle.chip.specs.Modes.{format_of}
use Rattle.chip.specs.Pairs.{EndsState, ends_of, arrivals, ends_clocked}
use Rattle.chip.specs.Chips.{ChipState, holding, leaves, done, after_clock}

-- a sender with room for one character
module _ (s : SenderState) where
  pub room_after : (l : List Level) (w : List ℕ) → length w ≤ 1 → empty (after_send (sender_holding s l w)).waiting ≡ empty w || leaves (sender_holding s l w)
  room_after (x ∷ l) [] few = refl
  room_after (x ∷ l) (c ∷ w) few = refl
  room_after [] [] few = refl
  room_after [] (c ∷ []) few = refl
  room_after [] (c ∷ (d ∷ w)) few = absurd (omega arith)

  done_after : (l : List Level) (w : List ℕ) → done (after_send (sender_holding s l w)) ≡ done (sender_holding s l w) || done (after_send (sender_holding s l w))
  done_after (x ∷ l) w = refl
  done_after [] [] = refl
  done_after [] (c ∷ w) = refl

  pub few_after : (l : List Level) (w : List ℕ) → length w ≤ 1 → length (after_send (sender_holding s l w)).waiting ≤ 1
  few_after (x ∷ l) w few = few
  few_after [] [] few = omega arith
  few_after [] (c ∷ w) few = omega arith

  same_capacity : (l : List Level) (w : List ℕ) → (after_send (sender_holding s l w)).capacity ≡ s.capacity
  same_capacity (x ∷ l) w = refl
  same_capacity [] [] = refl
  same_capacity [] (c ∷ w) = refl

  same_format : (l : List Level) (w : List ℕ) → (after_send (sender_holding s l w)).format ≡ s.format
  same_format (x ∷ l) w = refl
  same_format [] [] = refl
  same_format [] (c ∷ w) = refl

pub send_format : (s : SenderState) → (after_send s).format ≡ s.format
send_format s = same_format s s.left s.waiting

pub send_capacity : (s : SenderState) → (after_send s).capacity ≡ s.capacity
send_capacity s = same_capacity s s.left s.waiting

pub one_waits : (o : Option ℕ) → length (option_to_list o) ≤ 1
one_waits None = omega arith
one_waits (Some c) = omega arith

module _ (m : Mode) (t : Transmit) (r : Receive) (q : Rate) (l : Level) where
  clocked_ends : (e : EndsState) → length e.sender.waiting ≤ 1
      → holding m t (all_taken m r (arrivals e m.listen l)) q (Some (ends_clocked e m.listen l)) ≡ after_clock (holding m t r q (Some e)) l
  clocked_ends e few =
      let rx : Receive = all_taken m r (arrivals e m.listen l) in
      ap₂ {C = ChipState} (λ u v. record { mode = m; transmit = t; receive = rx; rate = q; utxifg = u; txept = v; ends = Some (ends_clocked e m.listen l) })
      (room_after e.sender e.sender.left e.sender.waiting few) (done_after e.sender e.sender.left e.sender.waiting)

  -- what a clock of ends that run does to the registers
  pub clocked_chip : (o : Option Ends) (e f : Ends) (s : Receive) → o ≡ Some e → ends_of f ≡ ends_clocked (ends_of e) m.listen l
      → s ≡ all_taken m r (arrivals (ends_of e) m.listen l) → holding m t s q (Some (ends_of f)) ≡ after_clock (holding m t r q (option_map ends_of o)) l
  clocked_chip o e f s is clocked received =
      ap₂ {C = ChipState} (λ x y. holding m t x q (Some y)) received clocked
      ∙ clocked_ends (ends_of e) (one_waits e.sender.waiting)
      ∙ sym (ap (λ (x : Option Ends). after_clock (holding m t r q (option_map ends_of x)) l) is)

  -- and the sender takes what it took
  pub still_wide : (o : Option Ends) (e f : Ends) → o ≡ Some e → ends_of f ≡ ends_clocked (ends_of e) m.listen l
      → ForSome o (λ x. width (meant x.sender).format ≡ width (format_of m)) → ForSome (Some f) (λ x. width (meant x.sender).format ≡ width (format_of m))
  still_wide o e f is clocked wide x same =
      let here : f ≡ x = cc in
      subst (λ (y : Ends). width (meant y.sender).format ≡ width (format_of m)) here
      (ap (λ (y : EndsState). width y.sender.format) clocked ∙ ap width (send_format (meant e.sender)) ∙ wide e is)
