-- The answers of the code layer in the form that a C program has of them: the refusal's number, and lengths that are 0 beside a refusal.
use Rattle.std.specs.Prelude.{ℕ, Result, Ok, Err}
use Rattle.bisection.specs.declared.Refusal.{Refusal}
use Rattle.bisection.specs.Refusals.{done}
use Rattle.bisection.specs.Numbers.{number_of}
use Rattle.codes.specs.declared.Lengths.{Lengths}
use Rattle.codes.specs.declared.Written.{Written}
use Rattle.codes.specs.declared.PathWritten.{PathWritten}

abbrev pub written : Result ℕ Refusal → Written
written (Ok n) = record { refusal = done; length = n }
written (Err refusal) = record { refusal = number_of refusal; length = 0 }

abbrev pub path_written : Result Lengths Refusal → PathWritten
path_written (Ok r) = record { refusal = done; axes = r.axes; depth = r.depth }
path_written (Err refusal) = record { refusal = number_of refusal; axes = 0; depth = 0 }
