-- Part for part.
use Rattle.std.proofs.Common.{◌≡◌, ℕ, Bool, ◌||◌, nat_lt, List, ◌++◌, sym, ap, ◌∙◌}
use Rattle.std.specs.List.{list_any}
use Rattle.std.specs.Slice.Iter.{chunks_rest}
use Rattle.std.proofs.lemmas.List.{nil_from_length}
use Rattle.std.proofs.lemmas.List.Folds.{list_any-append}
use Rattle.picture.specs.Scanning.{any_other}
use Rattle.picture.proofs.scanning.has_other.Goals as goal

-- r is what the part answers
part_first : (r : Bool) (all part rest : List ℕ) → all ≡ part ++ rest → r ≡ any_other part → (r || any_other rest) ≡ any_other all
part_first r all part rest parts h =
    ap (λ (b : Bool). b || any_other rest) h ∙ sym (list_any-append (nat_lt 1) part rest) ∙ ap (list_any (nat_lt 1)) (sym parts)

pub returns-then-has_other_in : goal.returns-then-has_other_in
returns-then-has_other_in c =
    part_first _ _ c.in-Some.part.now (chunks_rest c.next.new.self) c.in-Some.ensures.steps.1.0 c.if-has_other_in.ensures ∙ c.loop-part.invariant

pub loop-part-preserved : goal.loop-part-preserved
loop-part-preserved c =
    part_first _ _ c.in-Some.part.now (chunks_rest c.next.new.self) c.in-Some.ensures.steps.1.0 c.if-has_other_in.ensures ∙ c.loop-part.invariant

pub returns : goal.returns
returns c = ap (list_any (nat_lt 1)) (sym (nil_from_length _ c.in-None.ensures.steps.1.0)) ∙ c.loop-part.invariant
