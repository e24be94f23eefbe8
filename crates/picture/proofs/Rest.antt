-- A buffer that is written piece by piece, each into the rest of it.
use Rattle.std.proofs.Common.{◌≡◌, ℕ, ◌+◌, ◌-◌, ◌≤◌, List, [], ◌++◌, length, take, drop, sym, refl, ap, ◌∙◌, arith}
use borrow.Rule.Slice.PartMut.{put_mid}
use Rattle.std.proofs.lemmas.List.{append_assoc, append-nil, length-append, length-drop, length-take-le, take-append-drop, take_at, drop_at, take_rest, drop-drop, drop_all}

-- of `whole`, all but `rest` stands in the first `at` places of the buffer; the other places are as in `old`
pub record Partly (old whole rest buffer : List ℕ) (at : ℕ) : Type 0 where
  pub written : take at buffer ++ rest ≡ whole
  pub kept : drop at buffer ≡ drop at old
  pub room : at + length rest ≤ length buffer

pub none_yet : {old whole rest : List ℕ} → rest ≡ whole → length whole ≤ length old → Partly old whole rest old 0
none_yet e h = record { written = e; kept = refl; room = omega (arith, ap length e) }

pub all_written : {old whole rest buffer : List ℕ} {at n : ℕ} → Partly old whole rest buffer at → rest ≡ [] → n ≡ length whole
    → buffer ≡ whole ++ drop n old
all_written {old} {whole} {rest} {buffer} {at} {n} p e size =
    let front : take at buffer ≡ whole = sym (append-nil (take at buffer)) ∙ ap (λ l. take at buffer ++ l) (sym e) ∙ p.written in
    let count : at ≡ n = omega (arith, ap length front, length-take-le at buffer (omega arith)) in
    sym (take-append-drop at buffer)
    ∙ ap (λ l. l ++ drop at buffer) front
    ∙ ap (λ l. whole ++ l) (p.kept ∙ ap (λ k. drop k old) count)

module _ {old whole rest was : List ℕ} {at n : ℕ} (piece more : List ℕ) (p : Partly old whole rest was at) (next : rest ≡ piece ++ more)
    (size : n ≡ length piece) where
  pub piece_fits : n ≤ length (take (length was - at) (drop at was))
  piece_fits = rw (take_rest, length-drop) (omega (arith, ap length next, length-append piece more))

  -- `part` is what the lent rest of the buffer holds after its first n places became the piece
  module _ {part : List ℕ} {end : ℕ} (ends : end ≡ at + n) (wrote : part ≡ piece ++ drop n (take (length was - at) (drop at was))) where
    abbrev after : List ℕ
    after = put_mid at (length was - at) was part

    fits : end + length more ≤ length was
    fits = omega (arith, ap length next, length-append piece more)

    split : after ≡ (take at was ++ piece) ++ drop end was
    split =
        let past : drop (length was - at) (drop at was) ≡ [] = drop_all (length was - at) (drop at was) (rw length-drop (omega arith)) in
        let tail : drop n (take (length was - at) (drop at was)) ≡ drop end was =
        ap (drop n) (take_rest was at) ∙ drop-drop n at was ∙ ap (λ k. drop k was) (sym ends) in
        ap (λ l. take at was ++ (part ++ l)) past
        ∙ ap (λ l. take at was ++ l) (append-nil part ∙ wrote ∙ ap (λ l. piece ++ l) tail)
        ∙ sym (append_assoc (take at was) piece (drop end was))

    front : length (take at was ++ piece) ≡ end
    front = let f = fits in omega (arith, length-append (take at was) piece, length-take-le at was (omega arith))

    pub one_more : Partly old whole more after end
    one_more = record {
      written = ap (λ l. take end l ++ more) split
          ∙ ap (λ l. l ++ more) (take_at (take at was ++ piece) (drop end was) end front)
          ∙ append_assoc (take at was) piece more
          ∙ ap (λ l. take at was ++ l) (sym next)
          ∙ p.written;
      kept = ap (drop end) split
          ∙ drop_at (take at was ++ piece) (drop end was) end front
          ∙ ap (λ k. drop k was) ends
          ∙ sym (drop-drop n at was)
          ∙ ap (drop n) p.kept
          ∙ drop-drop n at old
          ∙ ap (λ k. drop k old) (sym ends);
      room =
          let f = fits in
          omega (arith, ap length split, length-append (take at was ++ piece) (drop end was), front, length-drop end was);
    }
