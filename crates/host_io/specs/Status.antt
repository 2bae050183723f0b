-- The number that the program ends with.
use Rattle.std.specs.Prelude.{ℕ}
use Rattle.host_io.specs.declared.status.Status.{Status}
use Rattle.host_io.specs.declared.status.Status.TheVariants.{Ok, Words, Project, Clip, ReadFault, WriteFault, Memory, ClipFault, Span, ProjectTooLong}

abbrev pub number_of : Status → ℕ
number_of Ok = 0
number_of Words = 2
number_of Project = 3
number_of Clip = 4
number_of ReadFault = 5
number_of WriteFault = 6
number_of Memory = 7
number_of ClipFault = 8
number_of Span = 9
number_of ProjectTooLong = 10
