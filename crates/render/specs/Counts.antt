-- A sink that counts keeps the laws of a sink. Assumes nothing.
use Rattle.std.specs.Prelude.{◌≡◌, ◌+◌, ◌^◌, ◌<◌, length}
use Rattle.std.proofs.Common.{arith, length-append}
use Rattle.render.specs.declared.counter.Counter.{Counter}
use Rattle.render.specs.Sink.{SinkLaws}

pub counter_laws : SinkLaws {S = Counter} (λ s t. s.total + length t < 2 ^ 64) (λ s t s₁. s₁.total ≡ s.total + length t)
counter_laws =
    record {
      none = λ s. omega arith;
      front = λ s t u h. omega (arith, h, length-append t u);
      rest = λ s s₁ t u h p. omega (arith, h, p, length-append t u);
      more = λ s s₁ s₂ t u p q. omega (arith, p, q, length-append t u);
    }
