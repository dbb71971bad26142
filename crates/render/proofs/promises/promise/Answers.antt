use Rattle.std.proofs.Common.{[], refl}
use Rattle.code.specs.Step.{decode}
use Rattle.code.specs.Code.{going}
use Rattle.code.proofs.Theorems.{only_classes}
use Rattle.render.specs.View.{env_in}
use Rattle.render.proofs.promises.promise.Goals as goal

pub returns : goal.returns
returns _ = record { same_classes = λ rs qs ls ts c b h. only_classes decode b (going c []) (env_in rs ls ts) (env_in qs ls ts) (record { arguments = refl; class = h; figures = λ i n q. refl }) }
