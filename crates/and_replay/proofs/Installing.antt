-- The turn of a node's installer: what is new is announced, or what was announced is installed.
use Rattle.std.proofs.Common.{◌≡◌, ℕ, ◌+◌, ◌<◌, List, ◌∷◌, ◌++◌, length, take, drop, refl, sym, ap, ◌∙◌, arith, Option, Some, None, ⊎_elim}
use Rattle.std.specs.Prelude.{IfSome, IfNone}
use Rattle.std.proofs.lemmas.List.{length-append, length-take-le, take-append-drop}
use Rattle.std.proofs.Math.Seq.{take-length}
use Rattle.and_policy.specs.declared.entry.Op.{Op}
use Rattle.and_events.specs.declared.event.Event.{Event}
use Rattle.and_events.specs.declared.event.Event.TheVariants.{Announce, Installed}
use Rattle.and_events.specs.declared.event.Node.{Node}
use Rattle.and_events.specs.declared.event.Node.TheVariants.{Host, Gate}
use Rattle.and_events.specs.declared.plan.Plan.{Plan}
use Rattle.and_events.specs.Legal.{Enabled, CanAnnounce, CanInstall}
use Rattle.and_events.specs.Places.{installer_of, IsNode}
use Rattle.and_events.specs.Run.{Run, past}
use Rattle.and_events.specs.Sound.{IsSound}
use Rattle.and_events.specs.State.{State, state, announced_of, installed_of, programme_of}
use Rattle.and_others.proofs.Growing.{announce_leaves_installed, announced_by, installed_by, installed_leaves_announced, numbers_below, taken_lasts}
use Rattle.and_book.specs.Views.{BookView, now, with_line}
use Rattle.and_replay.specs.Parting.{IsBatch, announced_ops, installed_ops}
use Rattle.and_replay.specs.Turns.{Adds}
use Rattle.and_replay.proofs.Adding.{back, carried_over}
use Rattle.and_replay.proofs.Frames.{before, ops_same, take_less}

-- what an announcement leaves, where the answer is this batch
pub record Announced (old new : BookView) (node : Node) (found : Option (List Op)) : Type 0 where
  pub adds : Adds old new (installer_of node)
  pub ops : installed_ops new.plan (past new.lines) node ≡ installed_ops old.plan (past old.lines) node
  pub batch : IsBatch new.plan (past new.lines) node found

-- an installer that may act, and has nothing to install, may announce
pub may_announce : (plan : Plan) (s : State) (node : Node) → Enabled plan s (installer_of node) → (installed_of plan s node < announced_of plan s node → ⊥) → CanAnnounce plan s node
may_announce plan s (Host h) may not = ⊎_elim (λ (can : CanAnnounce plan s (Host h)). can) (λ (can : CanInstall plan s (Host h)). absurd (not can.1)) may
may_announce plan s (Gate g) may not = ⊎_elim (λ (can : CanAnnounce plan s (Gate g)). can) (λ (can : CanInstall plan s (Gate g)). absurd (not can.1)) may

pub nothing_left : (plan : Plan) (h : List Event) (node : Node) (o : Option (List Op)) → IsBatch plan h node o → o ≡ None → installed_of plan (state plan h) node < announced_of plan (state plan h) node → ⊥
nothing_left plan h node None is none l = omega (arith, is, l)
nothing_left plan h node (Some ops) is none l = absurd (cc)

pub none_left : (plan : Plan) (h : List Event) (node : Node) (o found : Option (List Op)) → IsBatch plan h node o → found ≡ o → ((ops : List Op) → found ≡ Some ops → ⊥) → installed_of plan (state plan h) node < announced_of plan (state plan h) node → ⊥
none_left plan h node o None is same other l = nothing_left plan h node o is (sym same) l
none_left plan h node o (Some ops) is same other l = other ops refl

pub batch_is : (plan : Plan) (h : List Event) (node : Node) (o : Option (List Op)) (ops : List Op) → IsBatch plan h node o → o ≡ Some ops → ops ≡ announced_ops plan h node
batch_is plan h node None ops is some = absurd (cc)
batch_is plan h node (Some xs) ops is some = let same : xs ≡ ops = cc in sym same ∙ is

module _ (plan : Plan) (h : List Event) (node : Node) (sound : IsSound plan) (r : Run plan h) (is : IsNode plan.settings node) where
  abbrev at : ℕ
  at = installed_of plan (state plan h) node

  abbrev upto : ℕ
  upto = announced_of plan (state plan h) node

  abbrev p : List Op
  p = programme_of plan (state plan h) node

  -- what is installed, and what is announced and not installed
  pub together : installed_ops plan h node ++ announced_ops plan h node ≡ take upto p
  together =
      let below = numbers_below plan h node sound r is in
      ap (λ xs. xs ++ announced_ops plan h node) (sym (take_less at upto p below.0)) ∙ take-append-drop at (take upto p)

  pub room_for : length (installed_ops plan h node) + length (announced_ops plan h node) ≡ upto
  room_for =
      let below = numbers_below plan h node sound r is in
      sym (length-append (installed_ops plan h node) (announced_ops plan h node)) ∙ (ap length together ∙ length-take-le upto p below.1)

module _ (old new : BookView) (node : Node) (sound : IsSound old.plan) (run : Run new.plan (past new.lines)) (is : IsNode old.plan.settings node) where
  module _ (line : new ≡ with_line old 0 (Announce node (length (programme_of old.plan (now old) node)))) where
    abbrev announcing : Event
    announcing = Announce node (length (programme_of old.plan (now old) node))

    r : Run old.plan (announcing ∷ past old.lines)
    r = back old new 0 announcing line Run run

    pub announce_adds : Adds old new (installer_of node)
    announce_adds = record { event = announcing; line = line; actor = refl; number = tt; way = tt }

    pub announce_ops : installed_ops new.plan (past new.lines) node ≡ installed_ops old.plan (past old.lines) node
    announce_ops =
        carried_over old new 0 announcing line (λ p h. installed_ops p h node ≡ installed_ops old.plan (past old.lines) node)
        (ops_same old.plan (past old.lines) announcing sound r node is (λ upto e. cc))

    announced_batch : announced_ops old.plan (announcing ∷ past old.lines) node ≡ drop (installed_of old.plan (now old) node) (programme_of old.plan (now old) node)
    announced_batch =
        let h = past old.lines in
        let p = programme_of old.plan (now old) node in
        let p' = programme_of old.plan (state old.plan (announcing ∷ h)) node in
        ap (λ n. drop n (take (announced_of old.plan (state old.plan (announcing ∷ h)) node) p')) (announce_leaves_installed old.plan h node (length p) node)
        ∙ (ap (λ n. drop (installed_of old.plan (now old) node) (take n p')) (announced_by old.plan h node (length p) sound r)
        ∙ ap (drop (installed_of old.plan (now old) node)) (taken_lasts old.plan h announcing node sound r is (length p) (omega arith) ∙ take-length p))

    pub announce_batch : (ops : List Op) → ops ≡ drop (installed_of old.plan (now old) node) (programme_of old.plan (now old) node) → IsBatch new.plan (past new.lines) node (Some ops)
    announce_batch ops same = carried_over old new 0 announcing line (λ p h. ops ≡ announced_ops p h node) (same ∙ sym announced_batch)

  module _ (line : new ≡ with_line old 0 (Installed node (announced_of old.plan (now old) node))) where
    abbrev installing : Event
    installing = Installed node (announced_of old.plan (now old) node)

    r' : Run old.plan (installing ∷ past old.lines)
    r' = back old new 0 installing line Run run

    pub install_adds : Adds old new (installer_of node)
    install_adds = record { event = installing; line = line; actor = refl; number = tt; way = tt }

    all_installed : installed_ops old.plan (installing ∷ past old.lines) node ≡ take (announced_of old.plan (now old) node) (programme_of old.plan (now old) node)
    all_installed =
        let h = past old.lines in
        let upto = announced_of old.plan (now old) node in
        ap (λ n. take n (programme_of old.plan (state old.plan (installing ∷ h)) node)) (installed_by old.plan h node upto sound r')
        ∙ taken_lasts old.plan h installing node sound r' is upto (numbers_below old.plan h node sound (before old.plan h installing sound r') is).1

    pub install_ops : (ops : List Op) → ops ≡ installed_ops old.plan (past old.lines) node ++ announced_ops old.plan (past old.lines) node → ops ≡ installed_ops new.plan (past new.lines) node
    install_ops ops same =
        carried_over old new 0 installing line (λ p h. ops ≡ installed_ops p h node)
        (same ∙ (together old.plan (past old.lines) node sound (before old.plan (past old.lines) installing sound r') is ∙ sym all_installed))

    pub install_batch : IsBatch new.plan (past new.lines) node None
    install_batch =
        carried_over old new 0 installing line (λ p h. installed_of p (state p h) node ≡ announced_of p (state p h) node)
        (installed_by old.plan (past old.lines) node (announced_of old.plan (now old) node) sound r'
        ∙ sym (installed_leaves_announced old.plan (past old.lines) node (announced_of old.plan (now old) node) node))

pub announce_all : (old new : BookView) (node : Node) (found : Option (List Op)) → IsSound old.plan → Run new.plan (past new.lines) → IsNode old.plan.settings node → CanAnnounce old.plan (now old) node
    → IfSome found (λ batch. batch ≡ drop (installed_of old.plan (now old) node) (programme_of old.plan (now old) node))
    → IfSome found (λ batch. new ≡ with_line old 0 (Announce node (length (programme_of old.plan (now old) node)))) → IfNone found (CanAnnounce old.plan (now old) node → ⊥) → Announced old new node found
announce_all old new node None sound run is can batch line none = absurd (none can)
announce_all old new node (Some ops) sound run is can batch line none = record {
  adds = announce_adds old new node sound run is line;
  ops = announce_ops old new node sound run is line;
  batch = announce_batch old new node sound run is line ops batch;
}
