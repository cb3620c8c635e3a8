mod AtBase
