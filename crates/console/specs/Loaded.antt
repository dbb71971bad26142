-- What can be said of what the programs load, and of how they end. Assumes nothing: these are definitions.
use Rattle.std.specs.Prelude.{◌≡◌, ℕ, Bool, true, false, List, Some, None, Ok, Err, Option, Result}
use Rattle.std.specs.Process.{exit_status}
use Rattle.std.specs.declared.process.ExitCode.{ExitCode}
use Rattle.msgfile.specs.File.{FileRead, message_in}
use Rattle.msgfile.specs.declared.source.Source.{Source}

-- a message that is loaded is that of some text
abbrev pub Loaded : {E : Type 0} → Result (Option Source) E → Type 0
Loaded (Ok (Some s)) = (text : List ℕ) × FileRead (Ok s) (message_in text)
Loaded (Ok None) = Unit {0}
Loaded (Err e) = Unit {0}

-- the status of a program is 0 if all went well, and else 1
abbrev pub Ends : {E : Type 0} → Result Bool E → ExitCode → Type 0
Ends (Ok true) c = exit_status c ≡ 0
Ends (Ok false) c = exit_status c ≡ 1
Ends (Err e) c = exit_status c ≡ 1
