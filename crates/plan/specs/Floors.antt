-- The plan that a floor carries.
use Rattle.plan.specs.declared.Floor.{Floor}
use Rattle.plan.specs.Costs.{Plan, plan_of}

-- The width, height and bytes of a floor as a plan.
abbrev pub floor_plan : Floor → Plan
floor_plan f = plan_of f.width f.height f.plan.now
