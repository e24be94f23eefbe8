-- One act more of a run.
use Rattle.std.proofs.Common.{◌≡◌, ℕ, suc, ◌+◌, ◌<◌, ◌≤◌, List, [], ◌∷◌, ◌++◌, length, get_or, take, drop, set, Ok, Err, Result, sym, refl, ap, ◌∙◌, arith}
use Rattle.std.proofs.lemmas.List.{append_assoc, take_more, drop_more, length-take-le, set_at}
use Rattle.std.proofs.lemmas.List.Sums.{fold_push}
use Rattle.line.specs.declared.refusal.Refusal.{Refusal}
use Rattle.ends.specs.Receiver.{Entry, oldest}
use Rattle.link.specs.declared.act.Act.{Act}
use Rattle.link.specs.declared.act.Act.TheVariants.{Load, Send, Receive, Noise, Read}
use Rattle.link.specs.declared.act.Answer.{Answer}
use Rattle.link.specs.Link.{LinkState, loading, after_act, after}
use Rattle.link.specs.History.{read_answers}
use Rattle.link.specs.Acts.{answer, all_answers, load_told, read_told, told}

abbrev pub Outcome : Type 0
Outcome = Result Answer Refusal

answers_push : (m : LinkState) (xs : List Act) (a : Act) → all_answers m (xs ++ a ∷ []) ≡ all_answers m xs ++ answer (after m xs) a ∷ []
answers_push m [] a = refl
answers_push m (x ∷ xs) a = ap {B = List Outcome} (λ t. answer m x ∷ t) (answers_push (after_act m x) xs a)

answers_length : (m : LinkState) (xs : List Act) → length (all_answers m xs) ≡ length xs
answers_length m [] = refl
answers_length m (x ∷ xs) = ap suc (answers_length (after_act m x) xs)

module _ (m : LinkState) (acts : List Act) (i : ℕ) where
  pub state_more : (u v : LinkState) (d : Act) → i < length acts → u ≡ after m (take i acts) → v ≡ after_act u (get_or acts i d) → v ≡ after m (take (i + 1) acts)
  state_more u v d within inv e =
      e ∙ ap (λ x. after_act x (get_or acts i d)) inv ∙ sym (ap (after m) (take_more acts i d within) ∙ fold_push after_act m (take i acts) (get_or acts i d))

  pub answers_more : (u : LinkState) (d : Act) (old was : List Outcome) (r : Outcome) → i < length acts → i < length old → u ≡ after m (take i acts)
      → r ≡ answer u (get_or acts i d) → was ≡ all_answers m (take i acts) ++ drop i old → set was i r ≡ all_answers m (take (i + 1) acts) ++ drop (i + 1) old
  answers_more u d old was r within room inv e n =
      let most : i ≤ length acts = omega arith in
      let so_far : List Outcome = all_answers m (take i acts) in
      let size : length so_far ≡ i = answers_length m (take i acts) ∙ length-take-le i acts most in
      let step : all_answers m (take (i + 1) acts) ≡ so_far ++ r ∷ [] =
      ap (all_answers m) (take_more acts i d within) ∙ answers_push m (take i acts) (get_or acts i d)
      ∙ ap {B = List Outcome} (λ y. so_far ++ y ∷ []) (sym (e ∙ ap (λ x. answer x (get_or acts i d)) inv)) in
      ap {B = List Outcome} (λ l. set l i r) (n ∙ ap {B = List Outcome} (λ l. so_far ++ l) (drop_more old i r room))
      ∙ set_at so_far (get_or old i r) (drop (i + 1) old) r i size
      ∙ sym (append_assoc so_far (r ∷ []) (drop (i + 1) old)) ∙ ap {B = List Outcome} (λ l. l ++ drop (i + 1) old) (sym step)

-- the entries among the answers are those that the reads answered
pub reads_told : (m : LinkState) (acts : List Act) → told (all_answers m acts) ≡ read_answers m acts
reads_told m [] = refl
reads_told m (Load c ∷ xs) = loads (loading m c) (reads_told (after_act m (Load c)) xs)
  where
    loads : (r : Result Unit Refusal) → told (all_answers (after_act m (Load c)) xs) ≡ read_answers (after_act m (Load c)) xs
        → told (load_told r ∷ all_answers (after_act m (Load c)) xs) ≡ read_answers (after_act m (Load c)) xs
    loads (Ok x) e = e
    loads (Err x) e = e
reads_told m (Send ∷ xs) = reads_told (after_act m Send) xs
reads_told m (Receive ∷ xs) = reads_told (after_act m Receive) xs
reads_told m (Noise l ∷ xs) = reads_told (after_act m (Noise l)) xs
reads_told m (Read ∷ xs) = one m.receiver.unread (reads_told (after_act m Read) xs)
  where
    one : (us : List Entry) → told (all_answers (after_act m Read) xs) ≡ read_answers (after_act m Read) xs
        → told (read_told (oldest us) ∷ all_answers (after_act m Read) xs) ≡ take 1 us ++ read_answers (after_act m Read) xs
    one [] e = e
    one (u ∷ us) e = ap {B = List Entry} (λ l. u ∷ l) e
