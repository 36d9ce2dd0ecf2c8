-- Of a column taken,
pub mod Taking
-- of the bound as it is raised, and of the table of present costs.
pub mod Raising
pub mod Costs
