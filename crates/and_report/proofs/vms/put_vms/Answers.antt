use Rattle.std.proofs.Common.{◌≡◌, ◌<◌, ◌++◌, length, get_or, ap, subst, ◌∙◌, arith}
use Rattle.std.proofs.lemmas.List.{get_or_default}
use Rattle.and_report.specs.Vms.{vm_counted_if}
use Rattle.and_report.proofs.VmLemmas.{line_is, next_vm}
use Rattle.and_report.proofs.vms.put_vms.Goals as goal

pub loop-vm-preserved : goal.loop-vm-preserved
loop-vm-preserved c = λ t received.
    let vm = c.loop-vm.vm in
    let names = c.args.plan.now.names in
    let name = c.name-item.result in
    let net = c.net_of.result in
    let sent = c.index.result.now in
    let count = get_or c.args.received.now vm 0 in
    let here : vm < length names = subst (λ xs. c.loop-vm.vm < length xs) c.as_slice-name-items.ensures c.loop-vm-test.true in
    let within : vm < length c.args.received.now = omega (arith, here, c.requires.len) in
    let sent_at : sent ≡ get_or c.in_ok-sent.sent.items vm 0 = c.index.ensures ∙ get_or_default c.in_ok-sent.sent.items vm _ 0 (omega (arith, here, c.in_ok-sent.ensures.len)) in
    next_vm c.args.text.now.items c.loop-vm.text.items c.put_vm.new.text.items c.args.plan.now t names vm name here
    (c.name-item.is ∙ ap (λ xs. get_or xs vm name) c.as_slice-name-items.ensures) (c.loop-vm.invariant t received)
    (c.in_ok-put_vm.ensures ∙ ap (λ n. c.loop-vm.text.items ++ vm_counted_if net n sent count) c.as_bytes.ensures
    ∙ ap (λ l. c.loop-vm.text.items ++ l)
    (line_is c.args.plan.now t vm name net sent count (c.net_of.ensures c.args.plan.now c.requires.nets) (sent_at ∙ c.in_ok-sent.ensures.counts vm here) (received.counts vm within)))
