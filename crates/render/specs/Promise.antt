-- What is promised of saying, besides what its contracts say. Each is a statement, a type whose proof is owed by the function that names it. Assumes nothing.
use Rattle.std.specs.Prelude.{◌≡◌, ℕ, List, []}
use Rattle.code.specs.Step.{number, value_at, decode}
use Rattle.code.specs.Code.{going, run}
use Rattle.plural.specs.Rules.{class_in}
use Rattle.render.specs.Told.{values_in}
use Rattle.render.specs.View.{env_in}

-- two lists of rules that put the numbers told in the same classes say the same by the same code
abbrev pub SameClasses : Type 0
SameClasses =
    (rs qs ls ts c : List ℕ) (b : ℕ)
    → ((i n : ℕ) → value_at (values_in ls ts) i ≡ number n → class_in rs n ≡ class_in qs n)
    → run decode b (env_in rs ls ts) (going c []) ≡ run decode b (env_in qs ls ts) (going c [])
