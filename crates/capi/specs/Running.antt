-- What a run of a link answers, by the plain numbers of its ends and of the acts.
use Rattle.std.specs.Prelude.{ℕ, if◌then◌else◌, List, [], map, length, Ok, Err, Result, nat_lt}
use Rattle.line.specs.declared.level.Level.TheVariants.{Mark}
use Rattle.line.specs.declared.refusal.Refusal.{Refusal}
use Rattle.line.specs.declared.refusal.Refusal.TheVariants.{TooShort}
use Rattle.ends.specs.Sender.{SenderState}
use Rattle.ends.specs.Receiver.{ReceiverState}
use Rattle.queue.specs.Queues.{queued_to, queued_from}
use Rattle.link.specs.Link.{LinkState, linked}
use Rattle.link.specs.declared.joined.Link.{Link}
use Rattle.link.specs.Acts.{link_of, all_answers}
use Rattle.capi.specs.declared.numbers.EndNumbers.{EndNumbers}
use Rattle.capi.specs.declared.numbers.ActNumbers.{ActNumbers}
use Rattle.capi.specs.declared.numbers.AnswerNumbers.{AnswerNumbers}
use Rattle.capi.specs.Settings.{and_then, ends_at}
use Rattle.capi.specs.Translating.{acts_check, act_of, told_answer}

-- a bare sender and a bare receiver with these numbers, joined at rest
abbrev pub joined : EndNumbers → EndNumbers → Result LinkState Refusal
joined s r = and_then (ends_at s r) (λ p. Ok (linked p.0 p.1 Mark))

-- the same with a queue on each end
abbrev pub joined_queued : EndNumbers → EndNumbers → Result LinkState Refusal
joined_queued s r = and_then (ends_at s r) (λ p. Ok (linked (queued_to p.0 []) (queued_from p.1 []) Mark))

-- what the link means, if one was made, by what its ends mean
abbrev pub made : {S R : Type 0} → (S → SenderState) → (R → ReceiverState) → Result (Link S R) Refusal → Result LinkState Refusal
made sends hears (Ok k) = Ok (link_of sends hears k)
made sends hears (Err e) = Err e

-- what each act answers, one after the other
abbrev pub told_answers : LinkState → List ActNumbers → List AnswerNumbers
told_answers m acts = map told_answer (all_answers m (map act_of acts))

abbrev pub answers_at : Result LinkState Refusal → List ActNumbers → List AnswerNumbers
answers_at (Ok m) acts = told_answers m acts
answers_at (Err e) acts = []

-- how many acts are done, or why none is: room is the length of the list of answers
abbrev pub run_at : List ActNumbers → ℕ → LinkState → Result ℕ Refusal
run_at acts room m = and_then (acts_check acts) (λ _. if nat_lt room (length acts) then Err TooShort else Ok (length acts))

abbrev pub run_result : Result LinkState Refusal → List ActNumbers → ℕ → Result ℕ Refusal
run_result m acts room = and_then m (run_at acts room)
