use Rattle.std.proofs.Common.{length, arith, rules}
use Rattle.render.specs.Room.{Written}
use Rattle.render.proofs.Rooms.{whole_room}
use Rattle.render.proofs.Whole.{walked_whole}
use Rattle.render.proofs.saying.Saying.put.Goals as goal

pub returns : goal.returns
returns c =
    let p = walked_whole Written c.args.self.env c.args.self.left.bytes.now (length c.args.self.left.bytes.now) _ c.walk.new.sink c.walk.result c.args.self.good (omega arith) c.walk.ensures in
    let h = whole_room _ _ _ _ p.holds in
    search rules
