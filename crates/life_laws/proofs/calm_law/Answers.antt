use Rattle.life_laws.proofs.CalmLives.{calm_lives}
use Rattle.life_laws.proofs.calm_law.Goals as goal

pub returns : goal.returns
returns c = calm_lives
