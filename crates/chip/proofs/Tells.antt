-- What the flags tell.
use Rattle.std.proofs.Common.{◌≡◌, Bool, false, slice_index_or, ◌&&◌, ◌||◌, List, [], ◌∷◌, MatchBool, Option, sym, refl, ◌∙◌, subst}
use Rattle.std.proofs.Math.Bool.{beq}
use Rattle.std.specs.Cmp.{booleans_Decides}
use Rattle.ends.specs.Sender.{empty}
use Rattle.chip.specs.declared.mode.Mode.{Mode}
use Rattle.chip.specs.declared.transmit.Transmit.{Transmit}
use Rattle.chip.specs.declared.receive.Receive.{Receive}
use Rattle.chip.specs.declared.rate.Rate.{Rate}
use Rattle.chip.specs.Bytes.{has, byte}
use Rattle.chip.specs.Receiving.{any_error}
use Rattle.chip.specs.Pairs.{EndsState}
use Rattle.chip.specs.Chips.{holding, waiting, left}
use Rattle.chip.specs.Laws.{Tells}
use Rattle.chip.proofs.EachBit.{listed, holds_of, has_bit}

empty_tells : {T : Type 0} (xs : List T) → MatchBool (empty xs) (xs ≡ []) (xs ≡ [] → ⊥)
empty_tells [] = refl
empty_tells (x ∷ xs) = λ is. cc

both_tell : {S T : Type 0} (xs : List S) (ys : List T) → MatchBool (empty xs && empty ys) ((xs ≡ []) × (ys ≡ [])) ((xs ≡ []) × (ys ≡ []) → ⊥)
both_tell [] [] = (refl, refl)
both_tell [] (y ∷ ys) = λ p. cc (p.1)
both_tell (x ∷ xs) ys = λ p. cc (p.0)

-- bit 0 of a byte, and whether any of the four highest is set: computed over all bytes
pub lowest : (a b c d e f g h : Bool) → has (byte a b c d e f g h) 0x01 ≡ h
lowest a b c d e f g h = has_bit 7 0x01 (a ∷ b ∷ c ∷ d ∷ e ∷ f ∷ g ∷ h ∷ []) refl

highest : (a b c d e f g h : Bool) → a || (b || (c || d))
    ≡ has (byte a b c d e f g h) 0x80 || (has (byte a b c d e f g h) 0x40 || (has (byte a b c d e f g h) 0x20 || has (byte a b c d e f g h) 0x10))
highest a b c d e f g h = (booleans_Decides _ _).0 (holds_of (a ∷ b ∷ c ∷ d ∷ e ∷ f ∷ g ∷ h ∷ []) (λ bs. beq (slice_index_or bs 0 false || (slice_index_or bs 1 false || (slice_index_or bs 2 false || slice_index_or bs 3 false)))
    (has (listed bs) 0x80 || (has (listed bs) 0x40 || (has (listed bs) 0x20 || has (listed bs) 0x10)))) refl)

pub tells : (m : Mode) (t : Transmit) (r : Receive) (q : Rate) (e : Option EndsState) → Tells (holding m t r q e)
tells m t r q e =
    let done : Type 0 = (left e ≡ []) × (waiting e ≡ []) in
    record {
      utxifg = empty_tells (waiting e);
      txept = subst (λ (b : Bool). MatchBool b done (done → ⊥))
          (sym (lowest t.unused7 t.ckpl t.ssel1 t.ssel0 t.urxse t.txwake t.unused1 (empty (left e) && empty (waiting e)))) (both_tell (left e) (waiting e));
      rxerr = lowest r.fe r.pe r.oe r.brk r.urxeie r.urxwie r.rxwake (any_error r)
          ∙ highest r.fe r.pe r.oe r.brk r.urxeie r.urxwie r.rxwake (any_error r);
    }
