-- Commands as they are drawn, one after the other.
use Rattle.std.proofs.Common.{◌≡◌, ℕ, zero, suc, ◌+◌, ◌*◌, ◌%◌, List, [], ◌∷◌, ◌++◌, map, ap, sym, ◌∙◌, arith, add-one, zero-add, add-zero}
use Rattle.std.proofs.lemmas.List.{map-append}
use Rattle.std.specs.Global.{Vec}
use Rattle.rand_xoshiro.specs.SplitMix64.{mix_u64, next_state}
use Rattle.seq_object.specs.declared.command.Command.{Command}
use Rattle.seq_object.specs.History.{counted_from}
use Rattle.store_order.specs.Choice.{state_after}
use Rattle.drill.specs.Scripts.{command_of, drawn_place, drill_command, first_commands, thread_commands}

-- one number more
counted-more : (first n : ℕ) → counted_from first (suc n) ≡ counted_from first n ++ (first + n) ∷ []
counted-more first zero = ap (λ (k : ℕ). k ∷ []) (sym (add-zero first))
counted-more first (suc n) =
    let same : suc first + n ≡ first + suc n = omega arith in
    ap (λ (ks : List ℕ). first ∷ ks) (counted-more (suc first) n ∙ ap (λ (k : ℕ). counted_from (suc first) n ++ k ∷ []) same)

-- one value more, of each number from 0 on
pub map_counted-more : {A : Type 0} (f : ℕ → A) (n : ℕ) → map f (counted_from 0 (n + 1)) ≡ map f (counted_from 0 n) ++ f n ∷ []
map_counted-more f n =
    ap (λ (k : ℕ). map f (counted_from 0 k)) (add-one n)
    ∙ ap (map f) (counted-more 0 n)
    ∙ map-append f (counted_from 0 n) ((0 + n) ∷ [])
    ∙ ap (λ (k : ℕ). map f (counted_from 0 n) ++ f k ∷ []) (zero-add n)

-- one command of a thread more
pub commands-more : (n thread count : ℕ) (made : List Command) (c : Command) → made ≡ first_commands n thread count → c ≡ drill_command n thread count
    → made ++ c ∷ [] ≡ first_commands n thread (count + 1)
commands-more n thread count made c are is =
    ap (λ (cs : List Command). cs ++ c ∷ []) are
    ∙ ap (λ (d : Command). first_commands n thread count ++ d ∷ []) is
    ∙ sym (map_counted-more (drill_command n thread) count)

-- the commands of one thread more
pub threads-more : (n thread : ℕ) (made after : List (Vec Command)) (one : Vec Command) → after ≡ made ++ one ∷ []
    → map (λ commands. commands.items) made ≡ map (thread_commands n) (counted_from 0 thread) → one.items ≡ thread_commands n thread
    → map (λ commands. commands.items) after ≡ map (thread_commands n) (counted_from 0 (thread + 1))
threads-more n thread made after one push are is =
    ap (map (λ (commands : Vec Command). commands.items)) push
    ∙ map-append (λ (commands : Vec Command). commands.items) made (one ∷ [])
    ∙ ap (λ (cs : List (List Command)). cs ++ one.items ∷ []) are
    ∙ ap (λ (d : List Command). map (thread_commands n) (counted_from 0 thread) ++ d ∷ []) is
    ∙ sym (map_counted-more (thread_commands n) thread)

-- all commands of a thread
pub commands-all : (n thread count : ℕ) (made : List Command) → count ≡ 200 → made ≡ first_commands n thread count → made ≡ thread_commands n thread
unfolding thread_commands
commands-all n thread count made all are = are ∙ ap (first_commands n thread) all

-- the generator behind the first word of a command
pub behind_word : (n place state next : ℕ) → state ≡ state_after (2 * place) n → next ≡ next_state state → next ≡ state_after (2 * place + 1) n
behind_word n place state next drawn step = step ∙ ap next_state drawn ∙ ap (λ (k : ℕ). state_after k n) (sym (add-one (2 * place)))

-- and behind the second
pub behind_command : (n thread index state next : ℕ) → state ≡ state_after (2 * drawn_place thread index + 1) n → next ≡ next_state state
    → next ≡ state_after (2 * drawn_place thread (index + 1)) n
behind_command n thread index state next drawn step =
    let same : suc (2 * (200 * thread + index) + 1) ≡ 2 * (200 * thread + (index + 1)) = omega arith in
    step ∙ ap next_state drawn ∙ ap (λ (k : ℕ). state_after k n) same

-- and behind all commands of a thread
pub behind_thread : (n thread count state : ℕ) → count ≡ 200 → state ≡ state_after (2 * drawn_place thread count) n → state ≡ state_after (2 * drawn_place (thread + 1) 0) n
behind_thread n thread count state all drawn =
    let same : 2 * (200 * thread + count) ≡ 2 * (200 * (thread + 1) + 0) = omega arith in
    drawn ∙ ap (λ (k : ℕ). state_after k n) same

-- the command that two words make is the thread's
pub command_drawn : (n thread index first second kind key value : ℕ) → first ≡ state_after (2 * drawn_place thread index) n
    → second ≡ state_after (2 * drawn_place thread index + 1) n → kind ≡ (mix_u64 first).0 % 8 → key ≡ (mix_u64 second).0 % 100 → value ≡ 4 * index + thread
    → command_of kind key value ≡ drill_command n thread index
command_drawn n thread index first second kind key value is_first is_second is_kind is_key is_value =
    ap (λ (k : ℕ). command_of k key value) (is_kind ∙ ap (λ (s : ℕ). (mix_u64 s).0 % 8) is_first)
    ∙ ap (λ (k : ℕ). command_of ((mix_u64 (state_after (2 * drawn_place thread index) n)).0 % 8) k value) (is_key ∙ ap (λ (s : ℕ). (mix_u64 s).0 % 100) is_second)
    ∙ ap (command_of ((mix_u64 (state_after (2 * drawn_place thread index) n)).0 % 8) ((mix_u64 (state_after (2 * drawn_place thread index + 1) n)).0 % 100)) is_value
