-- A command with one more argument.
use Rattle.std.proofs.Common.{◌≡◌, ◌∙◌, ap, false}
use Rattle.clap.specs.Words.{AddsArg, App, Rule, app_of, rule_of, with_rule}
use Rattle.clap.specs.declared.builder.command.Command.{Command}
use Rattle.clap.specs.declared.builder.arg.Arg.{Arg}

pub added : (old new : Command) (a : Arg) (app : App) (r : Rule)
    → AddsArg old a new → a.global ≡ false → rule_of a ≡ r → app_of old ≡ app → app_of new ≡ with_rule app r
added old new a app r adds local is was =
    adds.shape local ∙ ap (λ (x : App). with_rule x (rule_of a)) was ∙ ap (with_rule app) is
