use Rattle.std.proofs.Common.{◌≡◌, codes, sym, ap, arith, rules}
use Rattle.std.proofs.lemmas.Slice.Eq.{text_from_reads}
use Rattle.msgfile.specs.Told.{kind_named}
use Rattle.msgfile.proofs.told.kind_named.Goals as goal

pub returns-in-number : goal.returns-in-number
returns-in-number c =
    let e : c.args.word.now ≡ codes "number" = text_from_reads c.args.word.now (codes "number") (omega arith) (search (rules, arith)) in
    ap kind_named (sym e)
