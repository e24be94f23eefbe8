-- The times are those of the format that has the numbers, where there is one and the divider is large enough.
use Rattle.std.proofs.Common.{◌≡◌, Ok, Err, Result, sym, ◌∙◌, ap₂, rules}
use Rattle.line.specs.declared.refusal.Refusal.{Refusal}
use Rattle.line.specs.declared.refusal.Refusal.TheVariants.{OutOfRange}
use Rattle.ends.specs.Times.{Times}
use Rattle.ends.specs.Timed.{answered}
use Rattle.usart.specs.Usart.{usart_times}
use Rattle.capi.proofs.Formats.{no_format, too_small, in_range}
use Rattle.capi.proofs.settings.TimingTryFromEndNumbers.try_from.Goals as goal

pub returns-in_err-format : goal.returns-in_err-format
returns-in_err-format c =
    let e = c.in_err-format.ensures in
    let m : answered c.from_residual.result ≡ Err OutOfRange = search rules in
    m ∙ sym (no_format c.args.numbers e.1)

pub returns-in_err-settings : goal.returns-in_err-settings
returns-in_err-settings c =
    let e = c.in_err-settings.ensures in
    let m : answered c.from_residual-in_err-settings.result ≡ Err OutOfRange = search rules in
    m ∙ sym (too_small c.args.numbers c.in_ok-format.format c.in_ok-format.ensures e.0)

pub returns : goal.returns
returns c =
    let f = c.in_ok-format.format in
    let e = c.in_ok-settings.ensures in
    c.timing.ensures.times
    ∙ ap₂ {C = Result Times Refusal} (λ u m. Ok (usart_times f u m)) e.1 e.2
    ∙ sym (in_range c.args.numbers f c.in_ok-format.ensures e.0)
