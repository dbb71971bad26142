-- The program's environment has classes below 6, and arguments of at most 2^32 letters. Assumes nothing.
use Rattle.std.proofs.Common.{◌≡◌, ℕ, ◌<◌, ◌≤◌, List, [], length, get_or, drop, sym, ap, inl, inr, arith, length-take}
use Rattle.std.proofs.lemmas.Bool.{cases_eq}
use Rattle.std.proofs.lemmas.List.{get_or-map, length-map}
use Rattle.code.specs.Step.{text, shown_by, shown, value_at}
use Rattle.code.specs.Promise.{Six}
use Rattle.plural.specs.Figures.{figures}
use Rattle.plural.proofs.Ruled.{passed}
use Rattle.plural.proofs.Written.{figures_at_most}
use Rattle.render.specs.declared.args.Args.{Args}
use Rattle.render.specs.declared.env.Env.{Env}
use Rattle.render.specs.Told.{Kept}
use Rattle.render.specs.View.{value_of, values_of, env_of}
use Rattle.render.proofs.Things.{value_number, value_text}

pub env_six : (v : Env) → Six (env_of v)
env_six v n = passed v.locale.rules.now v.locale.well n

-- the argument of a number
pub value_at_of : (a : Args) (i : ℕ) → i < length (values_of a) → value_at (values_of a) i ≡ value_of a.letters.now (get_or a.things.now i [])
unfolding value_at
value_at_of a i l = get_or-map (value_of a.letters.now) a.things.now i [] (text []) (omega (arith, length-map a.things.now (value_of a.letters.now)))

pub kept_at : (a : Args) (i : ℕ) → i < length (values_of a) → Kept a.letters.now (get_or a.things.now i [])
kept_at a i l = a.kept i (omega (arith, length-map a.things.now (value_of a.letters.now)))

-- an argument is never longer than 2^32
value_few : (ls t : List ℕ) → Kept ls t → length (shown_by figures (value_of ls t)) ≤ 4294967296
value_few ls t k =
    elim (cases_eq (get_or t 0 0) 1) [
      | inl q ↦ omega (arith, ap (λ v. length (shown_by figures v)) (sym (value_number ls (get_or t 0 0) (get_or t 1 0) (get_or t 2 0) q)), figures_at_most (get_or t 1 0))
      | inr q ↦
          let z : get_or t 0 0 ≡ 0 = omega (arith, k.kinded) in
          omega (arith, ap (λ v. length (shown_by figures v)) (sym (value_text ls (get_or t 0 0) (get_or t 1 0) (get_or t 2 0) q)), length-take (get_or t 2 0) (drop (get_or t 1 0) ls), (k.within z).1)
    ]

pub shown_few : (v : Env) (i : ℕ) → i < length (values_of v.args) → length (shown (env_of v) i) ≤ 4294967296
shown_few v i l = rw (value_at_of v.args i l) (value_few v.args.letters.now (get_or v.args.things.now i []) (kept_at v.args i l))
