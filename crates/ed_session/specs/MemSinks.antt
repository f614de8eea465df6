-- A sink with a room that is set aside at the start (our tool for runs in memory).
use Rattle.std.specs.Prelude.{ℕ, ◌+◌, ◌-◌, ◌^◌, true, false, List, [], ◌++◌, length, take, min, nat_eq, Result, Ok, Err}
use Rattle.ed_session.specs.declared.sink.SinkFault.{SinkFault}
use Rattle.ed_session.specs.Sinks.{failures_of_write}

-- what it took, how many bytes it takes in all and at once, which of its writes fails (0: none), how many there were, and how many failed
pub record MemSinkValue : Type 0 where
  pub taken : List ℕ
  pub room : ℕ
  pub piece : ℕ
  pub refused : ℕ
  pub writes : ℕ
  pub failures : ℕ

-- a sink that has taken nothing, and refuses no write
abbrev pub empty_sink : ℕ → ℕ → MemSinkValue
empty_sink room piece = record { taken = []; room = room; piece = piece; refused = 0; writes = 0; failures = 0 }

-- a count of calls, which stays at its greatest value
abbrev pub counted : ℕ → ℕ
counted n = min (n + 1) (2 ^ 64 - 1)

-- how many of these bytes the next write takes: none where it is the one that fails
abbrev pub takes : MemSinkValue → List ℕ → ℕ
takes s bytes = elim (nat_eq (counted s.writes) s.refused) [ true ↦ 0 | false ↦ min (length bytes) (min s.piece (s.room - length s.taken)) ]

-- what a write that took so many bytes answers
abbrev pub write_answer : ℕ → Result ℕ SinkFault
write_answer n = elim (nat_eq n 0) [ true ↦ Err (record {}) | false ↦ Ok n ]

-- the sink after a write
abbrev pub written : MemSinkValue → List ℕ → MemSinkValue
written s bytes =
    let n = takes s bytes in
    record s { taken = s.taken ++ take n bytes; writes = counted s.writes; failures = s.failures + failures_of_write {E = SinkFault} (Ok n) }
