mod FirstLine
mod Told
