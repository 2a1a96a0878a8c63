-- A crossing's answer in the form that a C program has of it: the refusal's number, and zeros beside a refusal.
use Rattle.std.specs.Prelude.{Result, Ok, Err}
use Rattle.bisection.specs.declared.Refusal.{Refusal}
use Rattle.bisection.specs.Refusals.{done}
use Rattle.bisection.specs.Numbers.{number_of}
use Rattle.crossing.specs.declared.Crossing.{Crossing}
use Rattle.crossing.specs.declared.Crossed.{Crossed}
use Rattle.crossing.specs.Outcome.{nowhere}

abbrev pub crossed : Result Crossing Refusal → Crossed
crossed (Ok r) = record { refusal = done; place = r.place; length = r.length; vertex = r.vertex }
crossed (Err refusal) = record { refusal = number_of refusal; place = 0; length = 0; vertex = nowhere }
