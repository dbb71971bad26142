use Rattle.std.proofs.Common.{rules, tests, ◌≡◌, length, take, ◌∙◌}
use Rattle.std.specs.List.{prefix_len}
use Rattle.std.proofs.lemmas.Iterator.{YieldsList-from_slice}
use Rattle.std.proofs.lemmas.Iterator.Consumers.{count_from_yields_List}
use Rattle.std.proofs.lemmas.Iterator.Search.{YieldsList-from_take_while}
use Rattle.std.proofs.lemmas.List.Folds.{length-prefix_len}
use Rattle.msgfile.proofs.words.split_front.Goals as goal

pub returns : goal.returns
returns g c p h =
    let found : c.count-end.result ≡ length (take (prefix_len p c.args.text.now) c.args.text.now) =
    count_from_yields_List _ c.count-end.result c.count-end.ensures.ran (YieldsList-from_take_while _ p (YieldsList-from_slice c.args.text.now cc) c.take_while.ensures.closure c.take_while.ensures.done (λ x b q k. search (rules, tests, h))) in
    let end : c.count-end.result ≡ prefix_len p c.args.text.now = found ∙ length-prefix_len p c.args.text.now in
    record { front = cc; rest = cc }
