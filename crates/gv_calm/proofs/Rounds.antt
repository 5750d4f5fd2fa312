-- The rounds of a number's script.
use Rattle.std.proofs.Common.{◌≡◌, ℕ, zero, suc, ◌+◌, ◌*◌, ◌/◌, ◌%◌, ◌^◌, ◌<◌, Bool, true, false, List, [], ◌∷◌, ◌++◌, cond, refl, sym, subst, arith}
use Rattle.std.specs.List.{AllByRecursion}
use Rattle.gv_types.specs.declared.event.Event.TheVariants as events
use Rattle.gv_types.specs.declared.event.Event.{Event}
use Rattle.gv_types.specs.declared.event.Place.{Place}
use Rattle.gv_types.specs.declared.event.Place.TheVariants as places
use Rattle.gv_types.specs.declared.event.Width.{Width}
use Rattle.gv_types.specs.declared.event.Width.TheVariants.{Four, Eight}
use Rattle.gv_types.specs.declared.ids.GuestId.{GuestId}
use Rattle.gv_text.specs.Script.{is_end}
use Rattle.gv_text.specs.declared.script_line.Line.{Line}
use Rattle.gv_text.specs.declared.script_line.Line.TheVariants as lines
use Rattle.gv_gen.specs.declared.draw.Kind.{Kind}
use Rattle.gv_gen.specs.declared.draw.Kind.TheVariants.{Store, Load, Submit, Turns, Switch, Map, Pointer, Move}
use Rattle.gv_gen.specs.Draw.{draw_at, state_after}
use Rattle.gv_gen.specs.Script.{lines_by, rounds_from}
use Rattle.gv_private.specs.Device.{PrivateDevice}
use Rattle.gv_private.specs.Inputs.{event}
use Rattle.gv_machine.specs.Course.{Course, play, onto}
use Rattle.gv_machine.specs.Machine.{Machine, Done, guest_course, line_course}
use Rattle.gv_calm.specs.Calm.{AreQuiet}
use Rattle.gv_calm.proofs.Machines.{Comes, Stands, all-append, comes-onto, comes-end, event-comes, other-way, switch-comes, turns-come}
use Rattle.gv_calm.proofs.States.{State, IsGood, IsListed, Steps, number_of, descriptor_of_guest}
use Rattle.gv_calm.proofs.Submitting.{HasHeader, HasPage, HasStore, header-steps, page-steps, high-steps, value-steps, head-steps, tail-steps, first-steps, second-steps, third-steps, fourth-steps}
use Rattle.gv_calm.proofs.Writing.{Anything, data-steps, map-steps}

abbrev pub whose : Bool → GuestId
whose g = record { 0 = number_of g }

-- a read and a move change nothing
read-steps : (g : Bool) (st : State) (guest : GuestId) (place : Place) (width : Width) (at : ℕ) → IsGood g st → Steps g [] [] Anything st (events.Read guest place width at)
read-steps g st guest place width at good = record { quiet = refl; after = st; left = refl; good = good; also = tt }

move-steps : (g : Bool) (st : State) (guest : GuestId) (frame : ℕ) → IsGood g st → Steps g [] [] Anything st (events.Move guest frame)
move-steps g st guest frame good = record { quiet = refl; after = st; left = refl; good = good; also = tt }

-- ---- a submission

abbrev write_of : Bool → Place → ℕ → ℕ → Event
write_of g place at value = events.Write (whose g) place Four at value

abbrev port_of : Bool → ℕ → Event
port_of g value = write_of g places.Registers 0x22230 value

-- the course of events of guest g
abbrev pub all_of : Bool → Machine → List Event → Course Machine Done
all_of g m [] = record { left = m; came = [] }
all_of g m (one ∷ more) = onto (guest_course m (number_of g) (event one)) (all_of g (guest_course m (number_of g) (event one)).left more)

-- one event, and what comes of the others
step : (g : Bool) (writes last : List ℕ) (A B : State → Type 0) (m : Machine) (one : Event) (more : List Event)
    → Comes g writes A (guest_course m (number_of g) (event one)) → ((n : Machine) → Stands g writes A n → Comes g last B (all_of g n more)) → Comes g last B (all_of g m (one ∷ more))
step g writes last A B m one more first rest =
    let course = guest_course m (number_of g) (event one) in
    comes-onto g last B course (all_of g course.left more) first.quiet (rest course.left first.left)

single : (g : Bool) (writes after : List ℕ) (A B : State → Type 0) (m : Machine) (one : Event) (s : Stands g writes A m) → Steps g writes after B s.this one → Comes g after B (all_of g m (one ∷ []))
single g writes after A B m one s steps = comes-end g after B (guest_course m (number_of g) (event one)) (event-comes g writes after A B m s one steps)

module _ (g : Bool) (v : ℕ) where
  abbrev at_v : ℕ
  at_v = 0x1000 + 4 * (v % 1024)

  abbrev ring_at : ℕ → ℕ → Event
  ring_at at value = write_of g places.Memory at value

  ring_comes : (m : Machine) → Stands g [] Anything m → Comes g [] HasStore (all_of g m (ring_at 0x2000 0x10000002 ∷ ring_at 0x2004 at_v ∷ ring_at 0x2008 0 ∷ ring_at 0x200C v ∷ []))
  ring_comes m s =
      step g [] [] HasHeader HasStore m (ring_at 0x2000 0x10000002) (ring_at 0x2004 at_v ∷ ring_at 0x2008 0 ∷ ring_at 0x200C v ∷ [])
      (event-comes g [] [] Anything HasHeader m s (ring_at 0x2000 0x10000002) (header-steps g s.this (whose g) s.good))
      (λ n t. step g [] [] HasPage HasStore n (ring_at 0x2004 at_v) (ring_at 0x2008 0 ∷ ring_at 0x200C v ∷ [])
      (event-comes g [] [] HasHeader HasPage n t (ring_at 0x2004 at_v) (page-steps g t.this (whose g) v t.good t.also))
      (λ k u. step g [] [] HasStore HasStore k (ring_at 0x2008 0) (ring_at 0x200C v ∷ [])
      (event-comes g [] [] HasPage HasStore k u (ring_at 0x2008 0) (high-steps g u.this (whose g) u.good u.also))
      (λ l x. single g [] [] HasStore HasStore l (ring_at 0x200C v) x (value-steps g x.this (whose g) v x.good x.also))))

  head_comes : (m : Machine) → Stands g [] HasStore m → Comes g [] HasStore (all_of g m (ring_at 0x1014 0 ∷ []))
  head_comes m s = single g [] [] HasStore HasStore m (ring_at 0x1014 0) s (head-steps g s.this (whose g) s.good s.also)

  tail_comes : (m : Machine) → Stands g [] HasStore m → Comes g [] IsListed (all_of g m (ring_at 0x101C 0x10 ∷ []))
  tail_comes m s = single g [] [] HasStore IsListed m (ring_at 0x101C 0x10) s (tail-steps g s.this (whose g) s.good s.also)

  abbrev high_half : ℕ
  high_half = descriptor_of_guest g / 2 ^ 32

  abbrev low_half : ℕ
  low_half = descriptor_of_guest g % 2 ^ 32

  port_comes : (m : Machine) → Stands g [] IsListed m → Comes g [] Anything (all_of g m (port_of g 0 ∷ port_of g 0 ∷ port_of g high_half ∷ port_of g low_half ∷ []))
  port_comes m s =
      step g (0 ∷ []) [] IsListed Anything m (port_of g 0) (port_of g 0 ∷ port_of g high_half ∷ port_of g low_half ∷ [])
      (event-comes g [] (0 ∷ []) IsListed IsListed m s (port_of g 0) (first-steps g s.this (whose g) 0 s.good s.also))
      (λ n t. step g (0 ∷ 0 ∷ []) [] IsListed Anything n (port_of g 0) (port_of g high_half ∷ port_of g low_half ∷ [])
      (event-comes g (0 ∷ []) (0 ∷ 0 ∷ []) IsListed IsListed n t (port_of g 0) (second-steps g t.this (whose g) 0 0 t.good t.also))
      (λ k u. step g (0 ∷ 0 ∷ high_half ∷ []) [] IsListed Anything k (port_of g high_half) (port_of g low_half ∷ [])
      (event-comes g (0 ∷ 0 ∷ []) (0 ∷ 0 ∷ high_half ∷ []) IsListed IsListed k u (port_of g high_half) (third-steps g u.this (whose g) 0 0 high_half u.good u.also))
      (λ l x. single g (0 ∷ 0 ∷ high_half ∷ []) [] IsListed Anything l (port_of g low_half) x (fourth-steps g x.this (whose g) x.good x.also))))

  -- the line of the port
  elsp_comes : (first : ℕ) (m : Machine) → descriptor_of_guest g ≡ first → Stands g [] IsListed m → Comes g [] Anything (line_course m (lines.Elsp (number_of g) 1 0 first))
  elsp_comes first m is s = subst (λ d. Comes g [] Anything (line_course m (lines.Elsp (number_of g) 1 0 d))) is (port_comes m s)

descriptor-is : (g : Bool) → descriptor_of_guest g ≡ 0x500000119 + 0x100010000 * number_of g
descriptor-is true = refl
descriptor-is false = refl

-- ---- lines

-- a course that tells no reason, and leaves no device in failsafe
pub record IsCalm (c : Course Machine Done) : Type 0 where
  pub quiet : AllByRecursion AreQuiet c.came
  pub devices : AllByRecursion (λ (p : PrivateDevice). p.failsafe ≡ false) c.left.devices

-- the lines that are left lead to no failsafe
abbrev pub LeadsOn : List Line → Machine → Type 0
LeadsOn rest m = IsCalm (play line_course m rest)

line-leads : (g : Bool) (writes : List ℕ) (Also : State → Type 0) (line : Line) (rest : List Line) (m : Machine)
    → Comes g writes Also (line_course m line) → ((n : Machine) → Stands g writes Also n → LeadsOn rest n) → LeadsOn (line ∷ rest) m
line-leads g writes Also line rest m first go =
    let course = line_course m line in
    let behind = go course.left first.left in
    record { quiet = all-append AreQuiet course.came (play line_course course.left rest).came first.quiet behind.quiet; devices = behind.devices }

module _ (v : ℕ) (rest : List Line) (go : (m : Machine) → Stands false [] Anything m → LeadsOn rest m) where
  -- an event of guest g alone
  one_leads : (g : Bool) (one : Event) (line : Line) (m : Machine) → Stands false [] Anything m → ((st : State) → IsGood g st → Steps g [] [] Anything st one) → line_course m line ≡ all_of g m (one ∷ []) → LeadsOn (line ∷ rest) m
  one_leads g one line m s steps is =
      let t = other-way false g m s in
      line-leads g [] Anything line rest m
      (subst (Comes g [] Anything) (sym is) (single g [] [] Anything Anything m one t (steps t.this t.good)))
      (λ n u. go n (other-way g false n u))

  pub round-leads : (kind : Kind) (g : Bool) (m : Machine) → Stands false [] Anything m → LeadsOn (lines_by kind (number_of g) v ++ rest) m
  round-leads Store g m s = one_leads g (write_of g places.Memory (0xD000 + 4 * (v % 1024)) v) (lines.Write (number_of g) places.Memory Four (0xD000 + 4 * (v % 1024)) (v ∷ [])) m s (λ st good. data-steps g st (whose g) v v good) refl
  round-leads Load g m s = one_leads g (events.Read (whose g) places.Memory Four (0xD000 + 4 * (v % 1024))) (lines.Read (number_of g) places.Memory Four (0xD000 + 4 * (v % 1024))) m s (λ st good. read-steps g st (whose g) places.Memory Four (0xD000 + 4 * (v % 1024)) good) refl
  round-leads Submit g m s =
      let n = number_of g in
      let head = lines.Write n places.Memory Four 0x1014 (0 ∷ []) in
      let tail = lines.Write n places.Memory Four 0x101C (0x10 ∷ []) in
      let port = lines.Elsp n 1 0 (0x500000119 + 0x100010000 * n) in
      line-leads g [] HasStore (lines.Write n places.Memory Four 0x2000 (0x10000002 ∷ (0x1000 + 4 * (v % 1024)) ∷ 0 ∷ v ∷ [])) (head ∷ tail ∷ port ∷ rest) m (ring_comes g v m (other-way false g m s))
      (λ a t. line-leads g [] HasStore head (tail ∷ port ∷ rest) a (head_comes g v a t)
      (λ b u. line-leads g [] IsListed tail (port ∷ rest) b (tail_comes g v b u)
      (λ c x. line-leads g [] Anything port rest c (elsp_comes g v (0x500000119 + 0x100010000 * n) c (descriptor-is g) x)
      (λ d y. go d (other-way g false d y)))))
  round-leads Turns g m s = line-leads false [] Anything (lines.Turn 1 (1 + v % 64)) rest m (comes-end false [] Anything _ (turns-come m (1 + v % 64) s)) go
  round-leads Switch g m s = line-leads false [] Anything (lines.Switch 1) rest m (comes-end false [] Anything _ (switch-comes m s)) go
  round-leads Map g m s = one_leads g (events.Write (whose g) places.Memory Eight (0xB000 + 8 * (v % 3)) (0x1000 * (12 + v % 4) + 3)) (lines.Write (number_of g) places.Memory Eight (0xB000 + 8 * (v % 3)) ((0x1000 * (12 + v % 4) + 3) ∷ [])) m s (λ st good. map-steps g st (whose g) v good) refl
  round-leads Pointer g m s = one_leads g (events.Read (whose g) places.Registers Four 0x223A0) (lines.Read (number_of g) places.Registers Four 0x223A0) m s (λ st good. read-steps g st (whose g) places.Registers Four 0x223A0 good) refl
  round-leads Move g m s = one_leads g (events.Move (whose g) (12 + v % 4)) (lines.Move (number_of g) (12 + v % 4)) m s (λ st good. move-steps g st (whose g) (12 + v % 4) good) refl

-- ---- the rounds

-- the lines before the end
unfoldable pub up_to_end : List Line → List Line
up_to_end [] = []
up_to_end (line ∷ more) = cond (is_end line) [] (line ∷ up_to_end more)

up-round : (kind : Kind) (g v : ℕ) (rest : List Line) → up_to_end (lines_by kind g v ++ rest) ≡ lines_by kind g v ++ up_to_end rest
unfolding up_to_end
up-round Store g v rest = refl
up-round Load g v rest = refl
up-round Submit g v rest = refl
up-round Turns g v rest = refl
up-round Switch g v rest = refl
up-round Map g v rest = refl
up-round Pointer g v rest = refl
up-round Move g v rest = refl

-- one of two numbers
guest-is : (n : ℕ) → n < 2 → (g : Bool) × (n ≡ number_of g)
guest-is zero low = (false, refl)
guest-is (suc zero) low = (true, refl)
guest-is (suc (suc n)) low = absurd (omega (arith, low))

end-leads : (m : Machine) → Stands false [] Anything m → LeadsOn [] m
end-leads m s = record { quiet = tt; devices = subst (AllByRecursion (λ (p : PrivateDevice). p.failsafe ≡ false)) (sym s.devices) (refl, (refl, tt)) }

pub rounds-lead : (n x : ℕ) (m : Machine) → Stands false [] Anything m → LeadsOn (up_to_end (rounds_from n x)) m
unfolding rounds_from up_to_end
rounds-lead zero x m s = end-leads m s
rounds-lead (suc n) x m s =
    let d = draw_at x in
    let who = guest-is d.guest (omega arith) in
    let rest = rounds_from n (state_after x) in
    subst (λ lines. LeadsOn lines m) (sym (up-round d.kind d.guest d.value rest))
    (subst (λ (guest : ℕ). LeadsOn (lines_by d.kind guest d.value ++ up_to_end rest) m) (sym who.1)
    (round-leads d.value (up_to_end rest) (λ k t. rounds-lead n (state_after x) k t) d.kind who.0 m s))
