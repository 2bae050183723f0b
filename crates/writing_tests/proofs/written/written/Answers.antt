use Rattle.writing_tests.proofs.written.written.Goals as goal

pub write_project-requires-clause-passed : goal.write_project-requires-clause-passed
write_project-requires-clause-passed c = c.in_ok-check.ensures.passed
