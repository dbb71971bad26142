-- The program's arguments and environment as the definitions' ones. Assumes nothing.
use Rattle.std.specs.Prelude.{ℕ, List, map, slice_index}
use Rattle.code.specs.Step.{Value, text, number, Env}
use Rattle.plural.specs.Figures.{figures}
use Rattle.plural.specs.Rules.{class_in}
use Rattle.plural.specs.View.{rules_of}
use Rattle.render.specs.Told.{value_in, values_in}
use Rattle.render.specs.declared.arg.Arg as arg
use Rattle.render.specs.declared.args.Args.{Args}
use Rattle.render.specs.declared.env.Env as env

-- one argument, with the letters that its reference holds
abbrev pub holds : arg.Arg → Value
holds (arg.TheVariants.Number n) = number n
holds (arg.TheVariants.Text t) = text t.now

-- an argument, by its three numbers
abbrev pub value_of : (ls t : List ℕ) → Value
value_of ls t = value_in ls (slice_index t 0) (slice_index t 1) (slice_index t 2)

-- all arguments
abbrev pub values_of : Args → List Value
values_of a = map (value_of a.letters.now) a.things.now

-- the environment of rules and things told
abbrev pub env_in : (rs ls ts : List ℕ) → Env
env_in rs ls ts = record { class = class_in rs; figures = figures; arguments = values_in ls ts }

-- the program's environment
abbrev pub env_of : env.Env → Env
env_of e = record { class = class_in (rules_of e.locale); figures = figures; arguments = values_of e.args }
