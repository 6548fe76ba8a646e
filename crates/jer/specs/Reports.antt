-- What `report` hands to a program.
use Rattle.jer.specs.declared.Reported.{Reported}
use Rattle.jer.specs.Answer.{Values}

abbrev pub reported_of : Values → Reported
reported_of v = record { number = v.number; first = v.first; second = v.second }
