use Rattle.std.proofs.Common.{◌≡◌, ◌+◌, ◌≤◌, ◌++◌, ◌∷◌, [], List, length, ap, sym, ◌∙◌, subst}
use Rattle.gv_balloon.specs.Shares.{AreAmong, given_after, next_ranges}
use Rattle.gv_balloon.specs.declared.given.Given.{Given}
use Rattle.gv_gpu.specs.Part.{frames_part, outside}
use Rattle.gv_gtt.specs.Gtt.{number_of, ranges_of}
use Rattle.gv_private.specs.Device.{PrivateDevice, new_device}
use Rattle.gv_mediator.specs.Joining.{Joined, first_owner}
use Rattle.gv_vgpu.specs.Vgpu.{private_of}
use Rattle.gv_mediator.specs.Rota.{owns}
use Rattle.gv_vgpu.specs.Standing.{Holds}
use Rattle.gv_mediator.specs.Tied.{devices_in}
use Rattle.gv_vgpu.specs.declared.vgpu.Vgpu.{Vgpu}
use Rattle.gv_mediator.proofs.Joining.{devices-then, engines-idle, joined-then}
use Rattle.gv_mediator.proofs.begin.join.Goals as goal

pub returns-clause-joined : goal.returns-clause-joined
returns-clause-joined g c =
    let d = g.G.Gpu.state c.args.gpu.now in
    let e = g.G.Gpu.state c.new.new.gpu in
    let guests = c.args.devices.now.items in
    let v = c.in_ok-device.device in
    let made = c.in_ok-device.ensures in
    let given = c.args.given.now in
    let want = c.args.guest.now.want in
    let n = c.len.result in
    let many_are : n ≡ length guests = c.len.ensures ∙ c.reserve.new.self.ok.0 ∙ ap length c.in_ok-reserve.ensures.items in
    let idle = engines-idle d guests given c.requires.joined n in
    let is : private_of e v (owns first_owner n) ≡ new_device n c.args.guest.now.frames c.next-ranges.result = made.device (owns first_owner n) idle in
    let holds = made.holds (owns first_owner n) idle in
    let number : number_of v.gtt ≡ n = sym holds.number ∙ ap (λ (p : PrivateDevice). p.number) is in
    let ranges : ranges_of v.gtt ≡ next_ranges given want = sym holds.ranges ∙ ap (λ (p : PrivateDevice). p.ranges) is ∙ c.next-ranges.ensures.ranges in
    let pushed = rw c.unwrap.ensures at c.push.ensures.items in
    let items : c.push.new.self.items ≡ guests ++ v ∷ [] = pushed ∙ ap (λ (gs : List Vgpu). gs ++ v ∷ []) c.in_ok-reserve.ensures.items in
    let live = made.live ∙ ap (λ m. d.live + m) (sym made.frames) in
    let few = c.requires.memory in
    let many = made.frames in
    subst (λ (given : Given). Joined e c.push.new.self.items given) (sym c.after.ensures)
    (subst (λ (gs : List Vgpu). Joined e gs (given_after given want)) (sym items)
    (joined-then d e guests v given want c.requires.joined c.requires.fit (number ∙ many_are) ranges (subst (λ k. Holds e v (owns first_owner k)) (sym number) holds) live (made.own ∙ sym many) (subst (λ m. d.live + m ≤ 16384) (sym many) few) c.requires.few
    (subst (λ k. outside (frames_part k) e ≡ outside (frames_part k) d) (sym number) made.outside)
    (subst (AreAmong (given_after given want)) c.next-ranges.ensures.ranges c.next-ranges.ensures.among)))

pub returns-clause-devices : goal.returns-clause-devices
returns-clause-devices g c =
    let d = g.G.Gpu.state c.args.gpu.now in
    let e = g.G.Gpu.state c.new.new.gpu in
    let guests = c.args.devices.now.items in
    let v = c.in_ok-device.device in
    let made = c.in_ok-device.ensures in
    let given = c.args.given.now in
    let want = c.args.guest.now.want in
    let n = c.len.result in
    let many_are : n ≡ length guests = c.len.ensures ∙ c.reserve.new.self.ok.0 ∙ ap length c.in_ok-reserve.ensures.items in
    let idle = engines-idle d guests given c.requires.joined n in
    let is : private_of e v (owns first_owner n) ≡ new_device n c.args.guest.now.frames c.next-ranges.result = made.device (owns first_owner n) idle in
    let holds = made.holds (owns first_owner n) idle in
    let number : number_of v.gtt ≡ n = sym holds.number ∙ ap (λ (p : PrivateDevice). p.number) is in
    let ranges : ranges_of v.gtt ≡ next_ranges given want = sym holds.ranges ∙ ap (λ (p : PrivateDevice). p.ranges) is ∙ c.next-ranges.ensures.ranges in
    let pushed = rw c.unwrap.ensures at c.push.ensures.items in
    let items : c.push.new.self.items ≡ guests ++ v ∷ [] = pushed ∙ ap (λ (gs : List Vgpu). gs ++ v ∷ []) c.in_ok-reserve.ensures.items in
    let live = made.live ∙ ap (λ m. d.live + m) (sym made.frames) in
    let few = c.requires.memory in
    let many = made.frames in
    ap (devices_in e first_owner) items
    ∙ devices-then d e guests v given want c.requires.joined c.requires.fit (number ∙ many_are) ranges (subst (λ k. Holds e v (owns first_owner k)) (sym number) holds) live (made.own ∙ sym many) (subst (λ m. d.live + m ≤ 16384) (sym many) few) c.requires.few
    (subst (λ k. outside (frames_part k) e ≡ outside (frames_part k) d) (sym number) made.outside)
    (new_device (length guests) c.args.guest.now.frames (next_ranges given want))
    (ap (λ k. private_of e v (owns first_owner k)) number ∙ is ∙ ap (λ k. new_device k c.args.guest.now.frames c.next-ranges.result) many_are ∙ ap (new_device (length guests) c.args.guest.now.frames) c.next-ranges.ensures.ranges)
