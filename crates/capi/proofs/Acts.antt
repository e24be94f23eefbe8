-- One act more of a run, by plain numbers.
use Rattle.std.proofs.Common.{◌≡◌, ℕ, suc, ◌+◌, ◌<◌, ◌≤◌, List, [], ◌∷◌, ◌++◌, map, length, get_or, take, drop, set, IfOk, Ok, Err, Result, sym, refl, ap, ◌∙◌, arith}
use Rattle.std.proofs.lemmas.List.{append_assoc, take_more, drop_more, length-take-le, set_at}
use Rattle.link.specs.Link.{LinkState, after_act, after}
use Rattle.line.specs.declared.refusal.Refusal.{Refusal}
use Rattle.link.specs.declared.act.Act.{Act}
use Rattle.link.specs.Acts.{answer}
use Rattle.link.specs.Delivery.{Delivers}
use Rattle.link.proofs.Run.{delivery}
use Rattle.capi.specs.declared.numbers.ActNumbers.{ActNumbers}
use Rattle.capi.specs.declared.numbers.AnswerNumbers.{AnswerNumbers}
use Rattle.capi.specs.Translating.{act_of, told_answer}
use Rattle.capi.specs.Running.{told_answers}

-- the link after these acts
abbrev pub done : LinkState → List ActNumbers → LinkState
done m acts = after m (map act_of acts)

done_push : (m : LinkState) (xs : List ActNumbers) (a : ActNumbers) → done m (xs ++ a ∷ []) ≡ after_act (done m xs) (act_of a)
done_push m [] a = refl
done_push m (x ∷ xs) a = done_push (after_act m (act_of x)) xs a

answers_push : (m : LinkState) (xs : List ActNumbers) (a : ActNumbers)
    → told_answers m (xs ++ a ∷ []) ≡ told_answers m xs ++ told_answer (answer (done m xs) (act_of a)) ∷ []
answers_push m [] a = refl
answers_push m (x ∷ xs) a = ap {B = List AnswerNumbers} (λ t. told_answer (answer m (act_of x)) ∷ t) (answers_push (after_act m (act_of x)) xs a)

answers_length : (m : LinkState) (xs : List ActNumbers) → length (told_answers m xs) ≡ length xs
answers_length m [] = refl
answers_length m (x ∷ xs) = ap suc (answers_length (after_act m (act_of x)) xs)

module _ (m : LinkState) (acts : List ActNumbers) (i : ℕ) where
  pub state_more : (u v : LinkState) (d : ActNumbers) → i < length acts → u ≡ done m (take i acts) → v ≡ after_act u (act_of (get_or acts i d)) → v ≡ done m (take (i + 1) acts)
  state_more u v d within inv e =
      e ∙ ap (λ x. after_act x (act_of (get_or acts i d))) inv ∙ sym (ap (done m) (take_more acts i d within) ∙ done_push m (take i acts) (get_or acts i d))

  pub answers_more : (u : LinkState) (d : ActNumbers) (old was : List AnswerNumbers) (r : AnswerNumbers) → i < length acts → i < length old
      → u ≡ done m (take i acts) → r ≡ told_answer (answer u (act_of (get_or acts i d))) → was ≡ told_answers m (take i acts) ++ drop i old
      → set was i r ≡ told_answers m (take (i + 1) acts) ++ drop (i + 1) old
  answers_more u d old was r within room inv e n =
      let most : i ≤ length acts = omega arith in
      let so_far : List AnswerNumbers = told_answers m (take i acts) in
      let size : length so_far ≡ i = answers_length m (take i acts) ∙ length-take-le i acts most in
      let step : told_answers m (take (i + 1) acts) ≡ so_far ++ r ∷ [] =
      ap (told_answers m) (take_more acts i d within) ∙ answers_push m (take i acts) (get_or acts i d)
      ∙ ap {B = List AnswerNumbers} (λ y. so_far ++ y ∷ []) (sym (e ∙ ap (λ x. told_answer (answer x (act_of (get_or acts i d)))) inv)) in
      ap {B = List AnswerNumbers} (λ l. set l i r) (n ∙ ap {B = List AnswerNumbers} (λ l. so_far ++ l) (drop_more old i r room))
      ∙ set_at so_far (get_or old i r) (drop (i + 1) old) r i size
      ∙ sym (append_assoc so_far (r ∷ []) (drop (i + 1) old)) ∙ ap {B = List AnswerNumbers} (λ l. l ++ drop (i + 1) old) (sym step)

-- a link that was joined at rest delivers, whatever the acts
pub delivering : (r : Result LinkState Refusal) (acts : List Act) → IfOk r (λ m. Delivers m acts)
delivering (Ok m) acts = λ start oks okr rest past before since is split quiet noiseless sampled. delivery start oks okr rest before since quiet noiseless sampled
delivering (Err e) acts = tt
