mod Next
mod Roles
mod WholeNumbers
mod Worked
