use Rattle.std.proofs.Common.{◌≡◌, ◌+◌, ◌++◌, ℕ, List, length, take, drop, sym, ap, refl, ◌∙◌, subst, arith}
use Rattle.plural.specs.Figures.{figures}
use Rattle.plural.proofs.Written.{figures_is}
use Rattle.render.specs.declared.writer.Writer.{Writer}
use Rattle.render.proofs.Rooms.{written_to}
use Rattle.render.proofs.writer.WriterSink.number.Goals as goal

pub write_digits-requires : goal.write_digits-requires
write_digits-requires c = (omega (arith, c.figures_len.ensures, ap length (figures_is c.args.n (omega arith))), omega (arith, c.requires, c.figures_len.ensures))

pub returns : goal.returns
returns c =
    let s : Writer = c.args.self.now in
    let room : List ℕ = s.room.now in
    let made : List ℕ = c.write_digits.new.buf in
    let text : List ℕ = figures c.args.n in
    let end : ℕ = s.at + c.figures_len.result in
    let decimals = figures_is c.args.n (omega arith) in
    let wrote = c.write_digits.ensures in
    let from : c.write_digits.result ≡ s.at = omega (arith, wrote.start, ap length decimals, c.figures_len.ensures) in
    record {
      same = refl;
      long = c.write_digits.auto.buf;
      holds = written_to s.at end room text made (omega (arith, c.requires)) (omega (arith, c.figures_len.ensures))
          (subst (λ (i : ℕ). drop i made ≡ text ++ drop end room) from (wrote.written ∙ ap (λ (ds : List ℕ). ds ++ drop end room) (sym decimals)))
          (subst (λ (i : ℕ). take i made ≡ take i room) from wrote.before);
    }
