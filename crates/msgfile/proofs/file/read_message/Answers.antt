use Rattle.std.proofs.Common.{rules, length}
use Rattle.msgfile.proofs.Faults.{message_short, file_within}
use Rattle.msgfile.specs.File.{message_in}
use Rattle.msgfile.proofs.file.read_message.Goals as goal

pub returns-clause-within : goal.returns-clause-within
returns-clause-within c = file_within (length c.args.text.now) _ (message_in c.args.text.now) (search rules) (message_short c.args.text.now)
