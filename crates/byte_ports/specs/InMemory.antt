-- The objects in memory, of which the calls whose numbers stand on a list fail.
use Rattle.std.specs.Prelude.{ℕ, ◌==◌, Bool, if◌then◌else◌, List, length, min, drop, refl}
use Rattle.std.specs.List.{list_any}
use Rattle.std.specs.Coded.{Coded, code_by, coded×, coded_ℕ, coded_list}
use Rattle.byte_ports.specs.Causes.{raised}
use Rattle.byte_ports.specs.Images.{Named, named_code}

-- the numbers of the calls that fail, how many calls were made, and how many of them failed
pub record FailState : Type 0 where
  pub fails : List ℕ
  pub calls : ℕ
  pub faults : ℕ

-- before the first call
abbrev pub no_calls : List ℕ → FailState
no_calls fails = record { fails = fails; calls = 0; faults = 0 }

-- the number of the next call; the first is 1
abbrev pub next_call : FailState → ℕ
next_call f = raised f.calls

-- whether the next call fails
abbrev pub is_next_failing : FailState → Bool
is_next_failing f = list_any (λ call. call == next_call f) f.fails

-- after one more call
abbrev pub after_call : FailState → FailState
after_call f = record f { calls = next_call f; faults = if is_next_failing f then raised f.faults else f.faults }

-- a source in memory: the bytes left, and which calls fail
pub record SourceState : Type 0 where
  pub left : List ℕ
  pub calls : FailState

-- how many bytes a read into so much room takes, where it does not fail
abbrev pub read_count : SourceState → ℕ → ℕ
read_count s room = min (length s.left) room

-- the source after a read into so much room
abbrev pub after_read : SourceState → ℕ → SourceState
after_read s room = record { left = if is_next_failing s.calls then s.left else drop (read_count s room) s.left; calls = after_call s.calls }

-- a sink in memory: the bytes held, and which calls fail
pub record SinkState : Type 0 where
  pub held : List ℕ
  pub calls : FailState

-- an image store in memory: the images by name, and which calls fail
pub record ImagesState : Type 0 where
  pub kept : Named
  pub calls : FailState

-- the code of which calls fail, as a model's value needs it
abbrev pub fail_code : Coded FailState
fail_code = code_by (List ℕ × (ℕ × ℕ)) (coded× (coded_list coded_ℕ) (coded× coded_ℕ coded_ℕ)) (λ f. (f.fails, (f.calls, f.faults))) (λ p. record { fails = p.0; calls = p.1.0; faults = p.1.1 }) (λ _. refl)

-- the code of an image store in memory, as a model's value needs it
abbrev pub images_code : Coded ImagesState
images_code = code_by (Named × FailState) (coded× named_code fail_code) (λ s. (s.kept, s.calls)) (λ p. record { kept = p.0; calls = p.1 }) (λ _. refl)
