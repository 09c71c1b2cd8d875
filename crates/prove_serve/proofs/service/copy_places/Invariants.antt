use Rattle.std.proofs.Common.{◌≡◌, ◌≤◌, length, map, take, vec_len, vec_capacity}
use Rattle.prove_serve.specs.Reported.{place_of}
use Rattle.prove_serve.proofs.service.copy_places.Given as goal

abbrev pub invariant-loop-job : goal.invariant-loop-job
invariant-loop-job g l = record {
  many : vec_len l.places ≡ l.job-index;
  capacity : length l.jobs ≤ vec_capacity l.places;
  done : l.places.items ≡ map place_of (take l.job-index l.jobs);
}
