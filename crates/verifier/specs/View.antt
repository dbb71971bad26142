-- A message by the bytes that it borrows. Assumes nothing: these are definitions.
use Rattle.std.specs.Prelude.{ℕ, List}
use Rattle.verifier.specs.declared.message.Message.{Message}

-- a message's code
abbrev pub code_of : Message → List ℕ
code_of m = m.code.bytes.now

-- the kinds of a message's arguments
abbrev pub kinds_of : Message → List ℕ
kinds_of m = m.kinds.now
