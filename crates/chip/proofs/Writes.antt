-- What a write of UTXBUF does to the sender.
use Rattle.std.proofs.Common.{◌≡◌, ℕ, ◌+◌, ◌%◌, ◌^◌, ◌<◌, ◌≤◌, Bool, true, false, if◌then◌else◌, ◌&&◌, ◌==◌, nat_le, List, [], ◌∷◌, ◌++◌, length, Ok, Err, Result, sym, refl, ap, ◌∙◌, subst, arith}
use Rattle.std.proofs.lemmas.Bool.{lt-leb}
use Rattle.line.specs.declared.refusal.Refusal.{Refusal}
use Rattle.line.specs.declared.refusal.Refusal.TheVariants.{TooWide, Full}
use Rattle.line.specs.declared.format.DataBits.TheVariants.{Seven, Eight}
use Rattle.line.specs.Frames.{data_count, width}
use Rattle.ends.specs.Sender.{SenderState, empty, load_answer, accepted, after_load, holding as sender_holding}
use Rattle.chip.specs.declared.mode.Mode.{Mode}
use Rattle.chip.specs.Modes.{format_of, character_of}

-- what is written has no more bits than the mode's characters
pub narrow : (m : Mode) (wake : Bool) (v : ℕ) → character_of m wake v < 2 ^ width (format_of m)
narrow m wake v = go m.chars m.mm wake
  where
    go : (eight address wake : Bool) → v % (if eight then 256 else 128) + (if address && wake then if eight then 256 else 128 else 0) < 2 ^ (data_count (if eight then Eight else Seven) + (if address then 1 else 0))
    go true true true = omega arith
    go true true false = omega arith
    go true false wake = omega arith
    go false true true = omega arith
    go false true false = omega arith
    go false false wake = omega arith

-- a sender with room for one character that has none takes a narrow one
module _ (s : SenderState) (c : ℕ) (small : c < 2 ^ width s.format) (room : empty s.waiting ≡ true) (one : s.capacity ≡ 1) where
  pub load_taken : load_answer s c ≡ Ok tt
  load_taken = go s.waiting room
    where
      go : (w : List ℕ) → empty w ≡ true → (if nat_le (2 ^ width s.format) c then Err TooWide else if length w == s.capacity then Err Full else Ok tt) ≡ Ok (tt {0})
      go [] none = simp (one, lt-leb (2 ^ width s.format) c small)
      go (x ∷ w) none = cc

  then_holds : after_load s c ≡ sender_holding s s.left (s.waiting ++ (c ∷ []))
  then_holds = ap (λ (x : Result Unit Refusal). (if accepted x then sender_holding s s.left (s.waiting ++ (c ∷ [])) else s)) load_taken

  pub waits_then : empty (after_load s c).waiting ≡ false
  waits_then = ap (λ (x : SenderState). empty x.waiting) then_holds ∙ joined s.waiting
    where
      joined : (w : List ℕ) → empty (w ++ (c ∷ [])) ≡ false
      joined [] = refl
      joined (x ∷ w) = refl

  pub load_format : (after_load s c).format ≡ s.format
  load_format = ap (λ (x : SenderState). x.format) then_holds

  pub load_capacity : (after_load s c).capacity ≡ s.capacity
  load_capacity = ap (λ (x : SenderState). x.capacity) then_holds

  pub load_few : length (after_load s c).waiting ≤ 1
  load_few = subst (λ (x : SenderState). length x.waiting ≤ 1) (sym then_holds) (joined s.waiting room)
    where
      joined : (w : List ℕ) → empty w ≡ true → length (w ++ (c ∷ [])) ≤ 1
      joined [] none = omega arith
      joined (x ∷ w) none = cc
