use Rattle.std.proofs.Common.{◌≡◌, ℕ, ◌/◌, ◌<◌, List, length, map, Some, None, Option, rules, tests, sym, subst, ap, ◌∙◌, arith}
use Rattle.std.proofs.lemmas.Iterator.{YieldsList-from_slice, YieldsList-from_map}
use Rattle.std.proofs.lemmas.Iterator.Adapters.{serves_from_places}
use Rattle.std.proofs.lemmas.Iterator.Search.{find_from_yields_List}
use Rattle.std.specs.List.{All, find}
use Rattle.std.specs.Option.{MatchOption, option_map}
use Rattle.std.specs.Simd.{first_chunks}
use Rattle.plural.specs.Class.{rule_of}
use Rattle.plural.specs.Rules.{Rule, fits, rules_in, class_in}
use Rattle.plural.proofs.Ruled.{passed, passed_moduli}
use Rattle.plural.proofs.Classed.{rules_chunks, class_found, words_at}
use Rattle.plural.proofs.locale.Locale.class.Goals as goal

-- the rules are the chunks
chunks : (rs : List ℕ) (cs : List (List ℕ)) → cs ≡ first_chunks 6 (length rs / 6) rs → map rule_of cs ≡ rules_in rs
chunks rs cs e = ap (λ (cs : List (List ℕ)). map rule_of cs) e ∙ sym (rules_chunks rs)

by_class : (n k : ℕ) (rs : List ℕ) (o : Option Rule) → option_map (λ (r : Rule). r) o ≡ find (λ (r : Rule). fits r n) (rules_in rs) → MatchOption o (k ≡ 5) (λ r. k ≡ r.class) → k ≡ class_in rs n
unfolding class_in
by_class n k rs None q h = class_found n k (rules_in rs) None q h
by_class n k rs (Some r) q h = class_found n k (rules_in rs) (Some r) q h

pub find-requires-clause-callable : goal.find-requires-clause-callable
find-requires-clause-callable c =
    serves_from_places (YieldsList-from_map _ rule_of (YieldsList-from_slice c.as_chunks.result.0.now cc) c.map.ensures.closure (λ x r q k. search (rules, tests)))
    (λ x q k. search (rules, tests))
    (λ x k l e.
    let moduli = subst (All (λ (r : Rule). 0 < r.modulus)) (sym (chunks c.args.self.now.rules.now c.as_chunks.result.0.now c.as_chunks.ensures.front)) (passed_moduli c.args.self.now.rules.now c.args.self.now.well) in
    let positive : 0 < x.modulus = subst (λ (r : Rule). 0 < r.modulus) (sym e) (moduli k x l) in search rules)

pub returns : goal.returns
returns c =
    let rs : List ℕ = c.args.self.now.rules.now in
    let all = chunks rs c.as_chunks.result.0.now c.as_chunks.ensures.front in
    let found = find_from_yields_List (λ (r : Rule). fits r c.args.n) _ _ c.find.result c.find.ensures.ran (YieldsList-from_map _ rule_of (YieldsList-from_slice c.as_chunks.result.0.now cc) c.map.ensures.closure (λ x r q k. search (rules, tests))) (λ x b q k. search (rules, tests)) in
    let value = by_class c.args.n c.map_or.result rs c.find.result (found ∙ ap (λ (qs : List Rule). find (λ (r : Rule). fits r c.args.n) qs) all) (search rules) in
    record { value = value; first = words_at rs c.args.n c.map_or.result value; six = omega (arith, value, passed rs c.args.self.now.well c.args.n) }
