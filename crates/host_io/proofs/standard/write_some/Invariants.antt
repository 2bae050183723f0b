use Rattle.std.specs.Io.KnownBytes.{Keeps}
use Rattle.host_io.proofs.standard.write_some.Given as goal

-- a try that failed took nothing
abbrev pub invariant-tries : goal.invariant-tries
invariant-tries g l = Keeps (g.W.Write.contents l.fn.writer) (g.W.Write.contents l.writer)
