use Rattle.std.proofs.Common.{◌≡◌, ◌++◌, ◌∷◌, [], ◌∙◌, ℕ, List, sym, ap, arith, length-append}
use Rattle.std.specs.Prelude.{fold}
use Rattle.std.proofs.lemmas.List.Sums.{fold-append}
use Rattle.std.specs.Path.{path_buf_bytes}
use Rattle.orca_edge.specs.Names.{behind}
use Rattle.orca_edge.proofs.fresh.target_of.Goals as goal

-- one link more
leads_on : (name path link after : List ℕ) (links : List (List ℕ))
    → path ≡ fold behind name links → after ≡ behind path link
    → after ≡ fold behind name (links ++ link ∷ [])
leads_on name path link after links here moved =
    moved ∙ (ap (λ p. behind p link) here ∙ sym (fold-append behind name links (link ∷ [])))

pub loop-followed-preserved : goal.loop-followed-preserved
loop-followed-preserved g c =
    let (links, few, here) = c.loop-followed.invariant in
    let link = path_buf_bytes c.in_ok-link-in-Ok.link in (
      links ++ link ∷ [],
      simp length-append (omega (arith, few)),
      leads_on _ _ link _ links here c.in_ok-follow-in-Ok.ensures,
    )
