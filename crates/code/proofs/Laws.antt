-- What holds of each step by itself: a clause for each kind of step. Assumes nothing.
use Rattle.std.proofs.Common.{◌≡◌, ℕ, suc, ◌*◌, ◌<◌, ◌≤◌, true, List, [], ◌∷◌, length, refl, ap, ◌∙◌, add-mul, le-mul_of_pos_right, arith}
use Rattle.std.proofs.lemmas.Bool.{ltb-true}
use Rattle.code.specs.Step.{Value, text, number, kinds, value_at, Env, shown_by, shown, Step, ends, letters, argument, unknown, cut, size, whole, exits, needs, pick, output}
use Rattle.code.specs.Promise.{Six, Alike}

pub size_pos : (s : Step) → 1 ≤ size s
unfolding size
size_pos ends = omega arith
size_pos (letters t) = omega arith
size_pos (argument i) = omega arith
size_pos (unknown x) = omega arith
size_pos cut = omega arith

pub needs_whole : (s : Step) (ks : List ℕ) → needs s ks ≡ true → whole s ≡ true
unfolding needs whole
needs_whole ends ks h = refl
needs_whole (letters t) ks h = refl
needs_whole (argument i) ks h = refl
needs_whole (unknown x) ks h = refl
needs_whole cut ks h = h

pub pick_fits : (s : Step) (e : Env) → Six e → needs s (kinds e.arguments) ≡ true → 0 < length (exits s) → pick s e < length (exits s)
unfolding exits needs pick
pick_fits ends e six h l = omega arith
pick_fits (letters t) e six h l = omega arith
pick_fits (argument i) e six h l = omega arith
pick_fits (unknown x) e six h l = omega arith
pick_fits cut e six h l = omega arith

pub length_kinds : (vs : List Value) → length (kinds vs) ≡ length vs
unfolding kinds
length_kinds [] = refl
length_kinds (v ∷ vs) = ap suc (length_kinds vs)

pub output_short :
    (s : Step) (e : Env) (m : ℕ)
    → 1 ≤ m
    → ((i : ℕ) → i < length e.arguments → length (shown e i) ≤ m)
    → needs s (kinds e.arguments) ≡ true
    → length (output s e) ≤ size s * m
unfolding needs output size
output_short ends e m l b h = omega arith
output_short (letters t) e m l b h = omega (arith, add-mul 2 (length t) m, le-mul_of_pos_right (length t) l)
output_short (argument i) e m l b h = omega (arith, b i (omega (arith, ltb-true i (length (kinds e.arguments)) h, length_kinds e.arguments)))
output_short (unknown x) e m l b h = omega arith
output_short cut e m l b h = omega arith

-- in environments that are alike a step says the same and takes the same exit
alike_shown : (f g : ℕ → List ℕ) (v : Value) → ((n : ℕ) → v ≡ number n → f n ≡ g n) → shown_by f v ≡ shown_by g v
alike_shown f g (text t) h = refl
alike_shown f g (number n) h = h n refl

pub alike_output : (s : Step) (e f : Env) → Alike e f → output s e ≡ output s f
unfolding output
alike_output ends e f a = refl
alike_output (letters t) e f a = refl
alike_output (argument i) e f a =
    alike_shown e.figures f.figures (value_at e.arguments i) (λ n q. a.figures i n q) ∙ ap (λ (vs : List Value). shown_by f.figures (value_at vs i)) a.arguments
alike_output (unknown x) e f a = refl
alike_output cut e f a = refl

pub alike_pick : (s : Step) (e f : Env) → Alike e f → needs s (kinds e.arguments) ≡ true → pick s e ≡ pick s f
unfolding pick
alike_pick ends e f a h = refl
alike_pick (letters t) e f a h = refl
alike_pick (argument i) e f a h = refl
alike_pick (unknown x) e f a h = refl
alike_pick cut e f a h = refl
